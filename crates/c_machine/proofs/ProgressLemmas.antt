-- How a machine's answers follow from where its run stands.
use Rattle.std.proofs.Common.{◌≡◌, ℕ, ◌+◌, List, [], ◌++◌, Bool, true, false, Option, inl, inr, refl, sym, ap, ◌∙◌, subst, arith}
use Rattle.std.proofs.lemmas.Bool.{false≢true}
use Rattle.c_tree.specs.declared.program.Program.{Program}
use Rattle.c_meaning.specs.declared.event.Event.{Event}
use Rattle.c_meaning.specs.Laws.{trace_of}
use Rattle.c_meaning.specs.Meaning.{Trace, Answer, Ended, Undefined, More, meaning}
use Rattle.c_meaning.specs.Activations.{executable}
use Rattle.c_meaning.specs.Steps.{Point, beginning}
use Rattle.c_meaning.proofs.MeaningSteps.{ends_stay, traces_grow}
use Rattle.c_machine.specs.declared.machine.Halt.{Halt}
use Rattle.c_machine.specs.declared.machine.Halt.TheVariants as halt
use Rattle.c_machine.specs.declared.runs.Run.{Run}
use Rattle.c_machine.specs.declared.runs.Turn.{Turn}
use Rattle.c_machine.specs.declared.runs.Turn.TheVariants as turn
use Rattle.c_machine.specs.Progress.{Progress, begun, meant_with, after_acts, turn_of, halt_of, trace_at, events_at, output_at, BeginsWith, told_at, IsSound, IsRight}
use Rattle.c_language.specs.Words.{Bytes}
use Rattle.c_machine.specs.Runs.{IsAt, IsAhead, Settled, Turned}
use Rattle.c_machine.specs.Traces.{Before, nothing_before, kept_events, IsTold}
use Rattle.c_machine.proofs.AheadLemmas.{ahead_start, ahead_act, ahead_led, ahead_goes, ahead_ends, ahead_breaks, ahead_fails}
use Rattle.c_machine.proofs.TraceLemmas.{told_taken, kept_front}

-- ---- acts that are done

-- a run has told what the meaning tells, behind what was told before, and stands as the answer says
pub record IsDone (before : Before) (m : Progress) (t : Turn) (r : Run) : Type 0 where
  pub told : IsTold before r.trace (trace_at m)
  pub answer : t ≡ turn_of (meaning m.acts m.program m.input)
  pub sound : IsSound before m t r

heard_as : (before : Before) (m : Progress) (r : Run) (t : Trace) (a : Answer) → meaning m.acts m.program m.input ≡ a → trace_of a ≡ t → IsTold before r.trace t → IsTold before r.trace (trace_at m)
heard_as before m r t a e same h = subst (λ (u : Trace). IsTold before r.trace u) (sym (ap trace_of e ∙ same)) h

pub settled_done : (before : Before) (m : Progress) (t : Turn) (r : Run) (x : Point) → IsAhead m.program m.input m.acts x → Settled m.program before t r x → IsDone before m t r
settled_done before m turn.Going r x ahead s =
    let y = s.0 in
    let there = ahead_led m.program m.input m.acts x y s.1.0 ahead in
    let e = ahead_goes m.program m.input m.acts y s.1.1.0 there in
    record {
      told = heard_as before m r y.trace (More y.trace) e refl s.1.1.1.trace;
      answer = sym (ap turn_of e);
      sound = (y, ((s.1.1.0, there), s.1.1.1));
    }
settled_done before m turn.Ended r x ahead s =
    let y = s.0 in
    let e = ahead_ends m.program m.input m.acts y s.1.1.0 (ahead_led m.program m.input m.acts x y s.1.0 ahead) in
    record {
      told = heard_as before m r y.trace (Ended y.trace) e refl s.1.1.1.trace;
      answer = sym (ap turn_of e);
      sound = ap turn_of e;
    }
settled_done before m (turn.Undefined i) r x ahead s =
    let y = s.0 in
    let e = ahead_breaks m.program m.input m.acts i y s.1.1.0 (ahead_led m.program m.input m.acts x y s.1.0 ahead) in
    record {
      told = heard_as before m r y.trace (Undefined i y.trace) e refl s.1.1.1.trace;
      answer = sym (ap turn_of e);
      sound = ap turn_of e;
    }

pub turned_done : (before : Before) (m : Progress) (t : Turn) (r : Run) (x : Point) → IsAhead m.program m.input m.acts x → Turned m.program before t r x → IsDone before (after_acts m 1) t r
turned_done before m t r x ahead (inl s) =
    settled_done before (after_acts m 1) t r s.0 (ahead_act m.program m.input m.acts x s.0 s.1.0 ahead) s.1.1
turned_done before m t r x ahead (inr s) =
    let e = ahead_fails m.program m.input m.acts s.0 x s.1.1.0 ahead in
    subst (λ (q : Turn). IsDone before (after_acts m 1) q r) (sym s.1.0) (record {
      told = heard_as before (after_acts m 1) r x.trace (Undefined s.0 x.trace) e refl s.1.1.1.trace;
      answer = sym (ap turn_of e);
      sound = ap turn_of e;
    })

-- ---- what was told is taken

-- a run that stands somewhere stands there once what it told was taken
at_taken : (before after : Before) (p : Program) (r s : Run) (x : Point) → s ≡ record r { trace = s.trace } → (IsTold before r.trace x.trace → IsTold after s.trace x.trace) → IsAt p before r x → IsAt p after s x
at_taken before after p r s x same told h =
    subst (λ (q : Run). IsAt p after q x) (sym same) (record {
      program = h.program;
      globals = h.globals;
      function = h.function;
      rest = h.rest;
      state = h.state;
      callers = h.callers;
      trace = told h.trace;
    })

sound_taken : (before after : Before) (m : Progress) (t : Turn) (r s : Run) → s ≡ record r { trace = s.trace } → ((u : Trace) → IsTold before r.trace u → IsTold after s.trace u) → IsSound before m t r → IsSound after m t s
sound_taken before after m turn.Going r s same told h = (h.0, (h.1.0, at_taken before after m.program r s h.0 same (told h.0.trace) h.1.1))
sound_taken before after m turn.Ended r s same told h = h
sound_taken before after m (turn.Undefined i) r s same told h = h

-- all that the run has told was taken
pub right : (before : Before) (m : Progress) (t : Turn) (r s : Run) (events : List Event) (output : Bytes) → s ≡ record r { trace = s.trace } → m.watched ≡ before.watched → events ≡ before.events ++ r.trace.events.items → output ≡ before.output ++ r.trace.output.items
    → s.trace.watched ≡ r.trace.watched → s.trace.events.items ≡ [] → s.trace.output.items ≡ [] → IsDone before m t r → IsRight m events output t s
right before m t r s events output same ws es os ww none_told none_put d =
    let es_are : before.events ++ r.trace.events.items ≡ events_at m = d.told.events ∙ ap (λ (w : Option (List Bool)). kept_events w (trace_at m)) (sym ws) in
    record {
      events_are = es ∙ es_are;
      output_is = os ∙ d.told.output;
      sound =
          λ ok.
          sound_taken before (told_at m) m t r s same (λ u. told_taken before (told_at m) r.trace s.trace u ws (sym es_are) (sym d.told.output) ww none_told none_put) d.sound;
    }

-- ---- failures

pub right_failed : (m : Progress) (t u : Turn) (r s : Run) (events events1 : List Event) (output output1 : Bytes) → events1 ≡ events → output1 ≡ output → IsRight m events output t r → IsRight (record m { failed = true }) events1 output1 u s
right_failed m t u r s events events1 output output1 es os h =
    record { events_are = es ∙ h.events_are; output_is = os ∙ h.output_is; sound = λ no_. absurd (false≢true (sym no_)) }

-- ---- runs that are over

pub over_same : (p : Program) (input : List ℕ) (k n : ℕ) → (turn_of (meaning k p input) ≡ turn.Going → ⊥) → meaning (k + n) p input ≡ meaning k p input
over_same p input k n over = by (meaning k p input) refl
  where
    by : (a : Answer) → meaning k p input ≡ a → meaning (k + n) p input ≡ meaning k p input
    by (Ended t) e = (ends_stay p k (k + n) input t (omega arith)).0 e ∙ sym e
    by (Undefined i t) e = (ends_stay p k (k + n) input t (omega arith)).1 i e ∙ sym e
    by (More t) e = absurd (over (ap turn_of e))

-- the answer of a sound run is that of the meaning
pub sound_turn : (m : Progress) (t : Turn) (r : Run) → IsSound (told_at m) m t r → turn_of (meaning m.acts m.program m.input) ≡ t
sound_turn m turn.Going r h = ap turn_of (ahead_goes m.program m.input m.acts h.0 h.1.0.0 h.1.0.1)
sound_turn m turn.Ended r h = h
sound_turn m (turn.Undefined i) r h = h

sound_over : (before after : Before) (m : Progress) (n : ℕ) (t : Turn) (r : Run) → meaning (m.acts + n) m.program m.input ≡ meaning m.acts m.program m.input → (t ≡ turn.Going → ⊥) → IsSound before m t r → IsSound after (after_acts m n) t r
sound_over before after m n turn.Going r same over h = absurd (over refl)
sound_over before after m n turn.Ended r same over h = ap turn_of same ∙ h
sound_over before after m n (turn.Undefined i) r same over h = ap turn_of same ∙ h

pub right_over : (m : Progress) (n : ℕ) (t : Turn) (r : Run) (events : List Event) (output : Bytes) → (turn_of (meaning m.acts m.program m.input) ≡ turn.Going → ⊥) → m.failed ≡ false → IsRight m events output t r → IsRight (after_acts m n) events output t r
right_over m n t r events output over ok h =
    let same = over_same m.program m.input m.acts n over in
    record {
      events_are = h.events_are ∙ ap (λ (a : Answer). kept_events m.watched (trace_of a)) (sym same);
      output_is = h.output_is ∙ ap (λ (a : Answer). (trace_of a).output) (sym same);
      sound = λ f. sound_over (told_at m) (told_at (after_acts m n)) m n t r same (λ e. over (sound_turn m t r (h.sound ok) ∙ e)) (h.sound ok);
    }

-- a step of a run that is over
pub rested : (m : Progress) (n : ℕ) (t : Turn) (r : Run) (events : List Event) (output : Bytes) → m.failed ≡ false → (t ≡ turn.Going → ⊥) → IsRight m events output t r → IsRight (after_acts m n) events output t r × (t ≡ turn_of (meant_with m n))
rested m n t r events output ok over h =
    let now_ = sound_turn m t r (h.sound ok) in
    let gone : turn_of (meaning m.acts m.program m.input) ≡ turn.Going → ⊥ = λ e. over (sym now_ ∙ e) in
    (right_over m n t r events output gone ok h, sym (ap turn_of (over_same m.program m.input m.acts n gone) ∙ now_))

pub ended_over : (t : Turn) → t ≡ turn.Ended → t ≡ turn.Going → ⊥
ended_over t a b = let z : ◌≡◌ {A = Turn} turn.Ended turn.Going = sym a ∙ b in cc

pub undefined_over : (t : Turn) (i : ℕ) → t ≡ turn.Undefined i → t ≡ turn.Going → ⊥
undefined_over t i a b = let z : ◌≡◌ {A = Turn} (turn.Undefined i) turn.Going = sym a ∙ b in cc

-- ---- an act

pub stepped : (m : Progress) (u : Turn) (r r1 r2 : Run) (events events1 : List Event) (output output1 : Bytes) → m.failed ≡ false → IsRight m events output turn.Going r
    → ((x : Point) → IsAt m.program (told_at m) r x → Turned m.program (told_at m) u r1 x) → r2 ≡ record r1 { trace = r2.trace } → events1 ≡ events ++ r1.trace.events.items → output1 ≡ output ++ r1.trace.output.items
    → r2.trace.watched ≡ r1.trace.watched → r2.trace.events.items ≡ [] → r2.trace.output.items ≡ [] → IsRight (record (after_acts m 1) { failed = false }) events1 output1 u r2 × (u ≡ turn_of (meant_with m 1))
stepped m u r r1 r2 events events1 output output1 ok h turns same es os ww none_told none_put =
    let s = h.sound ok in
    let d = turned_done (told_at m) m u r1 s.0 s.1.0.1 (turns s.0 s.1.1) in
    let right_ = right (told_at m) (after_acts m 1) u r1 r2 events1 output1 same refl (es ∙ ap (λ (x : List Event). x ++ r1.trace.events.items) h.events_are) (os ∙ ap (λ (x : Bytes). x ++ r1.trace.output.items) h.output_is) ww none_told none_put d in
    (record { events_are = right_.events_are; output_is = right_.output_is; sound = λ f. right_.sound ok }, d.answer)

-- the start
pub started : (p : Program) (watched : Option (List Bool)) (input : List ℕ) (t : Turn) (r r2 : Run) (events : List Event) (output : Bytes) → Settled p (nothing_before watched) t r (beginning (executable p) input) → r2 ≡ record r { trace = r2.trace }
    → events ≡ [] ++ r.trace.events.items → output ≡ [] ++ r.trace.output.items → r2.trace.watched ≡ r.trace.watched → r2.trace.events.items ≡ [] → r2.trace.output.items ≡ [] → IsRight (begun p input watched) events output t r2
started p watched input t r r2 events output s same es os ww none_told none_put =
    right (nothing_before watched) (begun p input watched) t r r2 events output same refl es os ww none_told none_put
    (settled_done (nothing_before watched) (begun p input watched) t r (beginning (executable p) input) (ahead_start p input) s)

-- ---- acts one after another

pub acts_then : (m : Progress) (a b : ℕ) → after_acts (after_acts m a) b ≡ after_acts m (a + b)
acts_then m a b = let e : m.acts + a + b ≡ m.acts + (a + b) = omega arith in ap (λ (n : ℕ). record m { acts = n }) e

pub acts_none : (m : Progress) → m ≡ after_acts m 0
acts_none m = let e : m.acts ≡ m.acts + 0 = omega arith in ap (λ (n : ℕ). record m { acts = n }) e

pub meant_then : (m : Progress) (a b : ℕ) → meant_with (after_acts m a) b ≡ meant_with m (a + b)
meant_then m a b = let e : m.acts + a + b ≡ m.acts + (a + b) = omega arith in ap (λ (n : ℕ). meaning n m.program m.input) e

-- the last act of a run that is over, with acts that do nothing behind it
pub run_over : (m l s f : Progress) (i budget left : ℕ) (t : Turn) (a : Halt) → l ≡ after_acts m i → s ≡ after_acts l 1 → f ≡ after_acts s left → i + 1 + left ≡ budget → t ≡ turn_of (meant_with l 1) → (t ≡ turn.Going → ⊥)
    → ((b : Answer) → t ≡ turn_of b → a ≡ halt_of b) → (a ≡ halt_of (meant_with m budget)) × (f ≡ after_acts m budget)
run_over m l s f i budget left t a le se fe sum answer over as_halt =
    let now_ : t ≡ turn_of (meaning (m.acts + (i + 1)) m.program m.input) = answer ∙ ap (λ (q : Progress). turn_of (meant_with q 1)) le ∙ ap turn_of (meant_then m i 1) in
    let gone : turn_of (meaning (m.acts + (i + 1)) m.program m.input) ≡ turn.Going → ⊥ = λ e. over (now_ ∙ e) in
    let n : m.acts + (i + 1) + left ≡ m.acts + budget = omega (arith, sum) in
    let same : meant_with m budget ≡ meaning (m.acts + (i + 1)) m.program m.input = ap (λ (k : ℕ). meaning k m.program m.input) (sym n) ∙ over_same m.program m.input (m.acts + (i + 1)) left gone in
    let k : i + 1 + left ≡ budget = sum in (
      as_halt (meant_with m budget) (now_ ∙ ap turn_of (sym same)),
      fe ∙ ap (λ (q : Progress). after_acts q left) (se ∙ ap (λ (q : Progress). after_acts q 1) le ∙ acts_then m i 1) ∙ acts_then m (i + 1) left ∙ ap (after_acts m) k,
    )

pub ended_halt : (b : Answer) → turn.Ended ≡ turn_of b → halt.Ended ≡ halt_of b
ended_halt (Ended u) e = refl
ended_halt (Undefined j u) e = cc
ended_halt (More u) e = cc

pub undefined_halt : (i : ℕ) (b : Answer) → turn.Undefined i ≡ turn_of b → halt.Undefined i ≡ halt_of b
undefined_halt i (Ended u) e = cc
undefined_halt i (Undefined j u) e = let same : i ≡ j = cc in ap halt.Undefined same
undefined_halt i (More u) e = cc

pub going_halt : (b : Answer) → turn.Going ≡ turn_of b → halt.Steps ≡ halt_of b
going_halt (Ended u) e = cc
going_halt (Undefined j u) e = cc
going_halt (More u) e = refl

-- what a sound machine's last act came to, as a halt
pub halted : (m : Progress) (t : Turn) (r : Run) (events : List Event) (output : Bytes) (a : Halt) → m.failed ≡ false → IsRight m events output t r → ((b : Answer) → t ≡ turn_of b → a ≡ halt_of b) → a ≡ halt_of (meant_with m 0)
halted m t r events output a ok h as_halt =
    let e : m.acts ≡ m.acts + 0 = omega arith in
    as_halt (meant_with m 0) (sym (sound_turn m t r (h.sound ok)) ∙ ap (λ (n : ℕ). turn_of (meaning n m.program m.input)) e)

-- ---- what is told is a front

pub events_front : (m : Progress) (n : ℕ) → BeginsWith (events_at m) (events_at (after_acts m n))
events_front m n =
    kept_front m.watched (trace_at m) (trace_at (after_acts m n)) (traces_grow m.program m.acts (m.acts + n) m.input (omega arith))

pub output_front : (m : Progress) (n : ℕ) → BeginsWith (output_at m) (output_at (after_acts m n))
output_front m n =
    let f = traces_grow m.program m.acts (m.acts + n) m.input (omega arith) in
    (f.more_output, f.output_is)

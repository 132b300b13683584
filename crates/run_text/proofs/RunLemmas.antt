-- What the answer of a machine tells of a run, and the text of what it has kept.
use Rattle.std.proofs.Common.{◌≡◌, ℕ, ◌+◌, ◌<◌, Bool, true, false, List, [], ◌∷◌, ◌++◌, Option, Some, Result, Ok, Err, IfErr, IsErrAnd, length, get_or, inl, inr, arith, refl, sym, ap, ap₂, subst, ◌∙◌}
use Rattle.std.proofs.Math.Path.{fun_ext}
use Rattle.std.proofs.lemmas.Bool.{cases_lt}
use Rattle.c_tree.specs.declared.program.Program.{Program}
use Rattle.c_language.specs.Words.{Bytes}
use Rattle.c_meaning.specs.declared.event.Event.{Event}
use Rattle.c_meaning.specs.Laws.{trace_of}
use Rattle.c_meaning.specs.Meaning.{Answer, Ended, Undefined, More, Trace, meaning, at, if_in}
use Rattle.c_machine.specs.declared.machine.Halt.TheVariants as halt
use Rattle.c_machine.specs.Progress.{Progress, begun, meant_with, after_acts, halt_of, events_at, output_at}
use Rattle.c_machine.specs.Traces.{watches}
use Rattle.bit_rows.specs.Sets.{has}
use Rattle.bit_rows.proofs.SetLemmas.{has_past}
use Rattle.run_text.specs.Answers.{HasEnded, EndsWith, IsCause}
use Rattle.run_text.specs.declared.fault.RunFault.{RunFault}
use Rattle.run_text.specs.Lines.{event_line, event_lines, number_among, lines_at}

-- ---- what a machine answers

pub ended_of : (a : Answer) → halt.Ended ≡ halt_of a → HasEnded a
ended_of (Ended t) is = (t, refl)
ended_of (Undefined i t) is = let f : halt.Ended ≡ halt.Undefined i = is in absurd cc
ended_of (More t) is = let f : halt.Ended ≡ halt.Steps = is in absurd cc

pub undefined_of : (a : Answer) (i : ℕ) → halt.Undefined i ≡ halt_of a → (t : Trace) × (a ≡ Undefined i t)
undefined_of (Ended t) i is = let f : halt.Undefined i ≡ halt.Ended = is in absurd cc
undefined_of (Undefined k t) i is = let f : halt.Undefined i ≡ halt.Undefined k = is in (t, (let e : k ≡ i = cc in ap (λ (j : ℕ). Undefined j t) e))
undefined_of (More t) i is = let f : halt.Undefined i ≡ halt.Steps = is in absurd cc

pub more_of : (a : Answer) → halt.Steps ≡ halt_of a → (t : Trace) × (a ≡ More t)
more_of (Ended t) is = let f : halt.Steps ≡ halt.Ended = is in absurd cc
more_of (Undefined i t) is = let f : halt.Steps ≡ halt.Undefined i = is in absurd cc
more_of (More t) is = (t, refl)

-- ---- a run from its beginning

as_meant : (p : Program) (input : List ℕ) (steps : ℕ) (P : Answer → Type 0) → P (meaning (0 + steps) p input) → P (meaning steps p input)
as_meant p input steps P h = let none : 0 + steps ≡ steps = omega arith in subst (λ (n : ℕ). P (meaning n p input)) none h

-- a fault that is passed on
pub passes_on : {A : Type 0} (p : Program) (input : List ℕ) (watched : Option (List Bool)) (steps : ℕ) (m : Progress) → m ≡ begun p input watched
    → (f : RunFault) (passed : Result A RunFault) → IsErrAnd passed (λ y. y ≡ f) → IsCause (meant_with m steps) f → IfErr passed (IsCause (meaning steps p input))
passes_on p input watched steps m begins f (Ok x) is cause = absurd is
passes_on p input watched steps m begins f (Err y) is cause =
    as_meant p input steps (λ (a : Answer). IsCause a y) (subst (λ (q : Progress). IsCause (meant_with q steps) y) begins (subst (IsCause (meant_with m steps)) (sym is) cause))

-- ---- the output

-- what a machine has written, where its run has ended
pub output_told : (p : Program) (input : List ℕ) (watched : Option (List Bool)) (steps : ℕ) (m new : Progress) → m ≡ begun p input watched → HasEnded (meant_with m steps) → new ≡ after_acts m steps
    → (output bytes : Bytes) → output ≡ output_at new → bytes ≡ output → EndsWith (λ (t : Trace). t.output) (meaning steps p input) bytes
output_told p input watched steps m new begins ended done output bytes told is =
    let end : HasEnded (meaning (0 + steps) p input) = subst (λ (q : Progress). HasEnded (meant_with q steps)) begins ended in
    let reached : new ≡ after_acts (begun p input watched) steps = done ∙ ap (λ (q : Progress). after_acts q steps) begins in
    let kept : output ≡ end.0.output = told ∙ ap output_at reached ∙ ap (λ (a : Answer). (trace_of a).output) end.1 in
    as_meant p input steps (λ (a : Answer). EndsWith (λ (t : Trace). t.output) a bytes) (record { trace = end.0; ended = end.1; is = is ∙ kept })

-- ---- events as text

one_more : (f g : ℕ → ℕ) (e : Event) (rest : List Event) (b : Bool) → (b ≡ true → f e.statement ≡ g e.statement) → event_lines f rest ≡ event_lines g rest
    → event_lines f (if_in b e rest) ≡ event_lines g (if_in b e rest)
one_more f g e rest true same before = ap₂ (λ (k : ℕ) (w : Bytes). event_line k e.values ++ w) (same refl) before
one_more f g e rest false same before = before

-- the events of a set need the numbers of that set alone
numbered_alike : (f g : ℕ → ℕ) (set : ℕ → Bool) → ((i : ℕ) → set i ≡ true → f i ≡ g i) → (es : List Event) → event_lines f (at set es) ≡ event_lines g (at set es)
numbered_alike f g set same [] = refl
numbered_alike f g set same (e ∷ es) = one_more f g e (at set es) (set e.statement) (same e.statement) (numbered_alike f g set same es)

within : (tests : List Bool) (i : ℕ) → has tests i ≡ true → i < length tests
within tests i is = elim (cases_lt i (length tests)) [
  | inl low ↦ low
  | inr high ↦ let f : false ≡ true = sym (has_past tests i high) ∙ is in absurd cc
]

-- the events that a machine has kept of the statements of a set, as text
pub events_told : (p : Program) (input : List ℕ) (tests : List Bool) (steps : ℕ) (m new : Progress) → m ≡ begun p input (Some tests) → HasEnded (meant_with m steps) → new ≡ after_acts m steps
    → (set : ℕ → Bool) → ((i : ℕ) → has tests i ≡ set i) → (numbers : List ℕ) → ((i : ℕ) → i < length tests → get_or numbers i 0 ≡ number_among (has tests) i)
    → (events : List Event) (bytes : Bytes) → events ≡ events_at new → bytes ≡ event_lines (λ i. get_or numbers i 0) events → EndsWith (lines_at set) (meaning steps p input) bytes
events_told p input tests steps m new begins ended done set same numbers numbered events bytes told is =
    let end : HasEnded (meaning (0 + steps) p input) = subst (λ (q : Progress). HasEnded (meant_with q steps)) begins ended in
    let reached : new ≡ after_acts (begun p input (Some tests)) steps = done ∙ ap (λ (q : Progress). after_acts q steps) begins in
    let watched : watches (Some tests) ≡ has tests = fun_ext (λ (i : ℕ). refl) in
    let kept : events ≡ at (has tests) end.0.events =
    told ∙ ap events_at reached ∙ ap (λ (a : Answer). at (watches (Some tests)) (trace_of a).events) end.1 ∙ ap (λ (s : ℕ → Bool). at s end.0.events) watched in
    as_meant p input steps (λ (a : Answer). EndsWith (lines_at set) a bytes)
    (subst (λ (s : ℕ → Bool). EndsWith (lines_at s) (meaning (0 + steps) p input) bytes) (fun_ext same) (record {
      trace = end.0;
      ended = end.1;
      is =
          is ∙ ap (event_lines (λ (i : ℕ). get_or numbers i 0)) kept
          ∙ numbered_alike (λ (i : ℕ). get_or numbers i 0) (number_among (has tests)) (has tests) (λ i on. numbered i (within tests i on)) end.0.events;
    }))

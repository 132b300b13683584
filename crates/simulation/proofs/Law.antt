-- The law: the slice follows its original, step by step, to each point of a run and to its end.
use Rattle.std.proofs.Common.{◌≡◌, ℕ, zero, suc, ◌≤◌, List, [], ◌∷◌, ◌++◌, true, ◌⊎◌, inl, inr, refl, sym, ap, ◌∙◌, subst, arith}
use Rattle.std.specs.Prelude.{option_map}
use Rattle.c_language.proofs.Tests.{by_answer, false_true}
use Rattle.c_meaning.specs.Activations.{types_in, called, received}
use Rattle.c_meaning.specs.Acts.{made}
use Rattle.c_meaning.specs.Meaning.{Trace, Answer, Ended}
use Rattle.c_meaning.specs.Steps.{Step, Stops, Acts, Moves, Runs, stop, fail, fail_none, act_none, act, move, broken, Reaches, here, by_act, by_move, Waiting, Point, step, machine, beginning}
use Rattle.run_facts.specs.NextSteps.{Next, Ends, Passes, Does, Calls, next_of, next_id, stores}
use Rattle.run_facts.proofs.NextSteps.{step_of, step_back, step_plain, step_stored}
use Rattle.simulation.specs.Settings.{Setting, Reached, kept_next}
use Rattle.simulation.specs.Agreeing.{Agree, Agreeing}
use Rattle.simulation.specs.Premises.{back, Premises}
use Rattle.simulation.specs.Abreast as course
use Rattle.simulation.specs.Abreast.{IsShared, DoSame, Abreast, SameAt, SliceFollows}
use Rattle.simulation.proofs.AwaySteps.{away_unshared, act_away, move_away, call_away, lost_plain, lost_stored, left_plain, left_stored}
use Rattle.simulation.proofs.Following.{Away, Related, Replied}
use Rattle.simulation.proofs.SharedCalls.{call_shared}
use Rattle.simulation.proofs.SharedReturns.{main_ends, return_plain, return_stored}
use Rattle.simulation.proofs.SharedSteps.{act_shared, move_shared}

module _ (s : Setting) (h : Premises s) where
  -- the reply to what the original's step is equal to
  reply_as : (x y : Point) (k : Step Point) → step s.original x ≡ k → Replied s x k y → Replied s x (step s.original x) y
  reply_as x y k e r = subst (λ (j : Step Point). Replied s x j y) (sym e) r

  -- ---- where both agree

  module _ (x y : Point) (w : s.W) (agree : Agree s w x y) (traces : SameAt s x.trace.events y.trace.events) where
    end_shared : next_of x.rest ≡ Ends → (ws : List Waiting) → x.callers ≡ ws → Replied s x (step s.original x) y
    end_shared e [] c = reply_as x y Stops (step_back s.original x [] e c) (main_ends s h x y w agree traces e c)
    end_shared e (a ∷ ws) c =
        by_answer (stores a.target) (λ st. reply_as x y _ (step_stored s.original x a ws e c st) (return_stored s h x y w agree traces e a ws c st (received (types_in s.original a.function) a.target x.state.returned (back s x a)) refl)) (λ st. reply_as x y _ (step_plain s.original x a ws e c st) (return_plain s h x y w agree traces e a ws c st))

    reply_shared : (k : Next) → next_of x.rest ≡ k → Replied s x (step s.original x) y
    reply_shared Ends e = end_shared e x.callers refl
    reply_shared (Passes change r) e = reply_as x y _ (step_of s.original x (Passes change r) e) (move_shared s h x y w agree traces change r e)
    reply_shared (Does i a go) e =
        reply_as x y _ (step_of s.original x (Does i a go) e) (act_shared s h x y w agree traces i a go e (made (types_in s.original x.function) a x.state) refl)
    reply_shared (Calls i to g args r) e =
        reply_as x y _ (step_of s.original x (Calls i to g args r) e) (call_shared s h x y w agree traces i to g args r e (called s.original x.function g args x.state) refl)

  -- ---- where the original is in a call that the slice hasn't

  module _ (x y : Point) (away : Away s x y) (traces : SameAt s x.trace.events y.trace.events) where
    end_away : next_of x.rest ≡ Ends → (above : List Waiting) → away.above ≡ above → Replied s x (step s.original x) y
    end_away e [] q =
        let a = away.caller in
        let c : x.callers ≡ a ∷ away.below = away.callers_are ∙ ap (λ (ds : List Waiting). ds ++ (a ∷ away.below)) q in
        by_answer (stores a.target) (λ st. reply_as x y _ (step_stored s.original x a away.below e c st) (left_stored s h x y away traces e q st (received (types_in s.original a.function) a.target x.state.returned (back s x a)) refl)) (λ st. reply_as x y _ (step_plain s.original x a away.below e c st) (left_plain s h x y away traces e q st))
    end_away e (d ∷ ds) q =
        let below : List Waiting = ds ++ (away.caller ∷ away.below) in
        let c : x.callers ≡ d ∷ below = away.callers_are ∙ ap (λ (es : List Waiting). es ++ (away.caller ∷ away.below)) q in
        by_answer (stores d.target) (λ st. reply_as x y _ (step_stored s.original x d below e c st) (lost_stored s h x y away traces e d ds q st (received (types_in s.original d.function) d.target x.state.returned (back s x d)) refl)) (λ st. reply_as x y _ (step_plain s.original x d below e c st) (lost_plain s h x y away traces e d ds q st))

    reply_away : (k : Next) → next_of x.rest ≡ k → Replied s x (step s.original x) y
    reply_away Ends e = end_away e away.above refl
    reply_away (Passes change r) e = reply_as x y _ (step_of s.original x (Passes change r) e) (move_away s h x y away traces change r e)
    reply_away (Does i a go) e =
        reply_as x y _ (step_of s.original x (Does i a go) e) (act_away s h x y away traces i a go e (made (types_in s.original x.function) a x.state) refl)
    reply_away (Calls i to g args r) e =
        reply_as x y _ (step_of s.original x (Calls i to g args r) e) (call_away s h x y away traces i to g args r e (called s.original x.function g args x.state) refl)

  reply_points : (x y : Point) → Agreeing s x y ⊎ Away s x y → SameAt s x.trace.events y.trace.events → Replied s x (step s.original x) y
  reply_points x y (inl both) traces = reply_shared x y both.world both.agree traces (next_of x.rest) refl
  reply_points x y (inr away) traces = reply_away x y away traces (next_of x.rest) refl

  -- each step of the original is answered
  pub replies : (x y : Point) → Related s x y → Replied s x (step s.original x) y
  replies x y r = reply_points x y r.points r.traces

  answered : (x y : Point) (k : Step Point) → step s.original x ≡ k → Related s x y → Replied s x k y
  answered x y k e r = subst (λ (j : Step Point). Replied s x j y) e (replies x y r)

  -- ---- a shared act that comes next

  next_same : (x y : Point) (w : s.W) → Agree s w x y → (k : Next) → next_of x.rest ≡ k → kept_next s x.function k ≡ true → DoSame s x y
  next_same x y w agree Ends e q = false_true q
  next_same x y w agree (Passes change r) e q = false_true q
  next_same x y w agree (Does i a go) e q =
      let there = h.projected.acts x i a go agree.reached e q in
      ap next_id (ap next_of agree.rest_is ∙ there.next_is) ∙ sym (ap (λ (j : Next). option_map s.statement (next_id j)) e)
  next_same x y w agree (Calls i to g args r) e q =
      let there = h.projected.calls x i to g args r agree.reached e q in
      ap next_id (ap next_of agree.rest_is ∙ there.next_is) ∙ sym (ap (λ (j : Next). option_map s.statement (next_id j)) e)

  shared_next : (x y : Point) → Agreeing s x y ⊎ Away s x y → IsShared s x → Agreeing s x y × DoSame s x y
  shared_next x y (inl both) shared = (both, next_same x y both.world both.agree (next_of x.rest) refl shared.kept)
  shared_next x y (inr away) shared = absurd (away_unshared s h x y away shared)

  -- ---- a run up to a point

  record Comes (z x y : Point) : Type 0 where
    pub place : Point
    pub abreast : Abreast s z place x y
    pub related : Related s z place

  come_on : (x z : Point) → Reaches (machine s.original) x z → (y : Point) → Related s x y → Comes z x y
  come_on x z here y r = record { place = y; abreast = course.there; related = r }
  come_on x z (by_act {t = x1} e more) y r =
      elim (answered x y (Acts x1) e r) [
        | inl w ↦ (
            let on = come_on x1 z more w.next w.related in
            record { place = on.place; abreast = course.act w.shared w.same_act w.agreeing e w.acts on.abreast; related = on.related }
            )
        | inr w ↦ (
            let on = come_on x1 z more y w.1 in
            record { place = on.place; abreast = course.act_alone w.0 e on.abreast; related = on.related }
            )
      ]
  come_on x z (by_move {t = x1} e more) y r =
      elim (answered x y (Moves x1) e r) [
        | inl w ↦ (
            let on = come_on x1 z more w.next w.related in
            record { place = on.place; abreast = course.move e w.moves on.abreast; related = on.related }
            )
        | inr w ↦ (
            let on = come_on x1 z more y w in
            record { place = on.place; abreast = course.move_alone e on.abreast; related = on.related }
            )
      ]

  -- ---- a run to its end

  record Ending (m : ℕ) (x y : Point) (t : Trace) : Type 0 where
    pub last : Point
    pub place : Point
    pub abreast : Abreast s last place x y
    pub agreeing : Agreeing s last place
    pub stops : step s.original last ≡ Stops
    pub stops_there : step s.slice place ≡ Stops
    pub trace_is : last.trace ≡ t
    pub ends : Runs (machine s.slice) m y (Ended place.trace)
    pub values_are : SameAt s t.events place.trace.events

  run_on : (n : ℕ) (x : Point) (a : Answer) → Runs (machine s.original) n x a → (m : ℕ) (y : Point) (t : Trace) → n ≤ m → Related s x y → a ≡ Ended t → Ending m x y t
  run_on n x a (stop e) m y t le r q =
      let reply = answered x y Stops e r in
      let ended : Ended x.trace ≡ Ended t = q in
      let told : x.trace ≡ t = cc in
      record {
        last = x;
        place = y;
        abreast = course.there;
        agreeing = reply.0;
        stops = e;
        stops_there = reply.1;
        trace_is = told;
        ends = stop reply.1;
        values_are = subst (λ (u : Trace). SameAt s u.events y.trace.events) told r.traces;
      }
  run_on n x a (fail e) m y t le r q = cc
  run_on n x a (fail_none e) m y t le r q = cc
  run_on n x a (act_none e) m y t le r q = cc
  run_on n x a (act {n = k} {t = x1} e run) zero y t le r q = absurd (omega arith)
  run_on n x a (act {n = k} {t = x1} e run) (suc m) y t le r q =
      elim (answered x y (Acts x1) e r) [
        | inl w ↦ (
            let on = run_on k x1 a run m w.next t (omega arith) w.related q in
            record {
              last = on.last;
              place = on.place;
              abreast = course.act w.shared w.same_act w.agreeing e w.acts on.abreast;
              agreeing = on.agreeing;
              stops = on.stops;
              stops_there = on.stops_there;
              trace_is = on.trace_is;
              ends = act w.acts on.ends;
              values_are = on.values_are;
            }
            )
        | inr w ↦ (
            let on = run_on k x1 a run (suc m) y t (omega arith) w.1 q in
            record {
              last = on.last;
              place = on.place;
              abreast = course.act_alone w.0 e on.abreast;
              agreeing = on.agreeing;
              stops = on.stops;
              stops_there = on.stops_there;
              trace_is = on.trace_is;
              ends = on.ends;
              values_are = on.values_are;
            }
            )
      ]
  run_on n x a (move {t = x1} e run) m y t le r q =
      elim (answered x y (Moves x1) e r) [
        | inl w ↦ (
            let on = run_on n x1 a run m w.next t le w.related q in
            record {
              last = on.last;
              place = on.place;
              abreast = course.move e w.moves on.abreast;
              agreeing = on.agreeing;
              stops = on.stops;
              stops_there = on.stops_there;
              trace_is = on.trace_is;
              ends = move w.moves on.ends;
              values_are = on.values_are;
            }
            )
        | inr w ↦ (
            let on = run_on n x1 a run m y t le w q in
            record {
              last = on.last;
              place = on.place;
              abreast = course.move_alone e on.abreast;
              agreeing = on.agreeing;
              stops = on.stops;
              stops_there = on.stops_there;
              trace_is = on.trace_is;
              ends = on.ends;
              values_are = on.values_are;
            }
            )
      ]
  run_on n x a (broken e) m y t le r q = cc

  -- ---- from the beginning

  begun : Related s (beginning s.original s.input) (beginning s.slice s.input)
  begun = record {
    points = inl
        (record {
          world = h.beginning.world;
          agree = record {
            reached = here;
            reached_there = here;
            function_is = h.projected.main_is;
            rest_is = h.projected.main_code;
            blocks = h.beginning.blocks;
            frames = h.beginning.frames;
            same = h.beginning.same;
            stack = tt;
          };
        });
    traces = refl;
  }

  comes_along : (x : Point) → Reached s x → course.ComesAlong s x
  comes_along x reached =
      let on = come_on (beginning s.original s.input) x reached (beginning s.slice s.input) begun in
      record {
        place = on.place;
        abreast = on.abreast;
        values_are = on.related.traces;
        shared = λ shared. shared_next x on.place on.related.points shared;
        ended = λ e. answered x on.place Stops e on.related;
      }

  ends_too : (n : ℕ) (t : Trace) → Runs (machine s.original) n (beginning s.original s.input) (Ended t) → course.EndsToo s n t
  ends_too n t run =
      let r = run_on n (beginning s.original s.input) (Ended t) run n (beginning s.slice s.input) t (omega arith) begun refl in
      record {
        last = r.last;
        place = r.place;
        abreast = r.abreast;
        agreeing = r.agreeing;
        stops = r.stops;
        stops_there = r.stops_there;
        trace_is = r.trace_is;
        ends = r.ends;
        values_are = r.values_are;
      }

  -- the slice follows its original
  pub slice_follows : SliceFollows s
  slice_follows = record { along = comes_along; to_end = ends_too }

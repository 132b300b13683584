-- Calls, where the original stands in an activation that kept calls alone have reached.
use Rattle.std.proofs.Common.{◌≡◌, ℕ, List, [], ◌∷◌, Option, Some, None, Bool, true, false, inl, inr, refl, sym, ap, ◌∙◌, subst}
use Rattle.std.specs.Prelude.{option_map}
use Rattle.c_language.proofs.Tests.{by_answer, false_true}
use Rattle.c_tree.specs.declared.expr.Expr.{Expr}
use Rattle.c_tree.specs.declared.statement.Target.{Target}
use Rattle.c_language.specs.Code.{Code}
use Rattle.c_meaning.specs.Values.{State}
use Rattle.c_meaning.specs.Acts.{shows}
use Rattle.c_meaning.specs.Activations.{code_at, called}
use Rattle.c_meaning.specs.Meaning.{Trace, told, announced}
use Rattle.c_meaning.specs.Steps.{Acts, Waiting, Point, point, waiting, entered, step}
use Rattle.run_facts.specs.NextSteps.{Next, Calls, next_of, next_id, stores}
use Rattle.run_facts.proofs.NextSteps.{step_of}
use Rattle.simulation.specs.Places.{kept_target, At}
use Rattle.simulation.specs.Settings.{Calling, ResultOut, Setting, kept_next}
use Rattle.simulation.specs.Agreeing.{Agree}
use Rattle.simulation.specs.Premises.{Entered, Premises}
use Rattle.simulation.specs.Abreast.{SameAt}
use Rattle.simulation.proofs.Events.{both_tell, one_tells, other_tells}
use Rattle.simulation.proofs.Following.{Replied}
use Rattle.simulation.proofs.SharedSteps.{fails_too, reached_act, there_act, not_shared, want_unmodified, stack_alone}
use Rattle.simulation.proofs.Stacks.{stack_on, kept_calls}
use Rattle.simulation.proofs.Targets.{announced_plain, announced_stored, kept_stores, dropped_stores, plain_stores}

-- traces that are equal to others
pub told_as : (s : Setting) (t t1 u u1 : Trace) → t ≡ t1 → u ≡ u1 → SameAt s t1.events u1.events → SameAt s t.events u.events
told_as s t t1 u u1 p q same =
    subst (λ (v : Trace). SameAt s v.events u.events) (sym p) (subst (λ (v : Trace). SameAt s t1.events v.events) (sym q) same)

module _ (s : Setting) (h : Premises s) where
  module _ (x y : Point) (w : s.W) (agree : Agree s w x y) (traces : SameAt s x.trace.events y.trace.events) where
    module _ (i : ℕ) (to : Target) (g : ℕ) (args : List Expr) (r : Code) (e : next_of x.rest ≡ Calls i to g args r) where
      -- the caller that waits then, and its callee's beginning
      abbrev Caller : Waiting
      Caller = waiting i to x.function r x.state

      abbrev Inside : State → Point
      Inside c = point g (code_at s.original g) c (Caller ∷ x.callers) (announced i to x.trace)

      calls_here : (c : State) → called s.original x.function g args x.state ≡ Some c → step s.original x ≡ Acts (Inside c)
      calls_here c is =
          step_of s.original x (Calls i to g args r) e ∙ ap (λ (o : Option State). entered i to g (code_at s.original g) Caller x.callers x.trace o) is

      -- ---- what is told

      abbrev keeps_result : Bool
      keeps_result = s.kept (ResultOut x.function i g)

      abbrev to_there : Target
      to_there = kept_target keeps_result (s.target to)

      told_plain : s.kept (Calling x.function i g) ≡ true → stores to ≡ false → SameAt s (announced i to x.trace).events (announced (s.statement i) to_there y.trace).events
      told_plain k st =
          told_as s (announced i to x.trace) (told i (shows [] []) x.trace) (announced (s.statement i) to_there y.trace) (told (s.statement i) (shows [] []) y.trace) (announced_plain i to x.trace st) (announced_plain (s.statement i) to_there y.trace (plain_stores keeps_result (s.target to) (h.projected.targets to ∙ st))) (both_tell s x.trace.events y.trace.events i (s.statement i) [] [] refl refl (h.telling.call_ranks x i to g args r agree.reached e k) traces)

      -- a call whose result is stored is told when that is done
      told_later : stores to ≡ true → keeps_result ≡ true → SameAt s (announced i to x.trace).events (announced (s.statement i) to_there y.trace).events
      told_later st q =
          told_as s (announced i to x.trace) x.trace (announced (s.statement i) to_there y.trace) y.trace (announced_stored i to x.trace st) (announced_stored (s.statement i) to_there y.trace (kept_stores keeps_result (s.target to) q ∙ (h.projected.targets to ∙ st))) traces

      -- a slice that drops the result tells the call at once, which is none of the criterion
      told_dropped : s.kept (Calling x.function i g) ≡ true → stores to ≡ true → keeps_result ≡ false → SameAt s (announced i to x.trace).events (announced (s.statement i) to_there y.trace).events
      told_dropped k st q =
          let none : s.criterion i ≡ false = fails_too keeps_result (s.criterion i) q (λ c. h.telling.call_stores x i to g args r agree.reached e c st) in
          told_as s (announced i to x.trace) x.trace (announced (s.statement i) to_there y.trace) (told (s.statement i) (shows [] []) y.trace) (announced_stored i to x.trace st) (announced_plain (s.statement i) to_there y.trace (dropped_stores keeps_result (s.target to) q)) (other_tells s x.trace.events y.trace.events (record { statement = s.statement i; values = [] }) (h.telling.call_ranks x i to g args r agree.reached e k ∙ none) traces)

      told_both : s.kept (Calling x.function i g) ≡ true → SameAt s (announced i to x.trace).events (announced (s.statement i) to_there y.trace).events
      told_both k =
          by_answer (stores to) (λ st. by_answer keeps_result (λ q. told_later st q) (λ q. told_dropped k st q)) (λ st. told_plain k st)

      told_one : s.kept (Calling x.function i g) ≡ false → SameAt s (announced i to x.trace).events y.trace.events
      told_one k =
          by_answer (stores to) (λ st. told_as s (announced i to x.trace) x.trace y.trace y.trace (announced_stored i to x.trace st) refl traces) (λ st. told_as s (announced i to x.trace) (told i (shows [] []) x.trace) y.trace y.trace (announced_plain i to x.trace st) refl (one_tells s x.trace.events y.trace.events (record { statement = i; values = [] }) (fails_too (s.kept (Calling x.function i g)) (s.criterion i) k (λ c. (h.telling.call_kept x i to g args r agree.reached e c).0)) traces))

      -- ---- a kept call

      -- what the callee wants where it begins
      wants_inside : (there : List Expr) (c : State) (en : Entered s w x y g there c) → s.kept (Calling x.function i g) ≡ true → (l : s.L) → s.wanted l (At g (code_at s.original g)) → s.Same en.world l c en.state
      wants_inside there c en k l want =
          by_answer (s.outside l) (λ o. en.outside l o (agree.same l (h.wanting.passed_in x i to g args r l agree.reached e (h.closing.actual_in x i to g args r l agree.reached e k o (h.closing.formal_in g l want (h.closing.taken g l want o)))))) (λ o. en.inside l o (λ t. h.closing.formal_in g l want t))

      call_of_both : (c : State) → called s.original x.function g args x.state ≡ Some c → s.kept (Calling x.function i g) ≡ true → Replied s x (Acts (Inside c)) y
      call_of_both c is k =
          let there = h.projected.calls x i to g args r agree.reached e k in
          let q = s.project x.function r in
          let next_there : next_of y.rest ≡ Calls (s.statement i) to_there (s.function g) there.args q = ap next_of agree.rest_is ∙ there.next_is in
          let en = h.entering.both w x y i to g args r to_there there.args q c agree e k next_there (λ l u. agree.same l (h.wanting.argument_used x i to g args r l agree.reached e k u)) is in
          let caller : Waiting = waiting (s.statement i) to_there y.function q y.state in
          let y1 : Point = point (s.function g) (code_at s.slice (s.function g)) en.state (caller ∷ y.callers) (announced (s.statement i) to_there y.trace) in
          let calls_there : step s.slice y ≡ Acts y1 = step_of s.slice y (Calls (s.statement i) to_there (s.function g) there.args q) next_there ∙ ap (λ (o : Option State). entered (s.statement i) to_there (s.function g) (code_at s.slice (s.function g)) caller y.callers y.trace o) en.called_is in
          let grown : (here_ there_ : ℕ → Option ℕ) → s.Frames w here_ there_ → s.Frames en.world here_ there_ = (λ here_ there_ f. h.growing.frames w en.world here_ there_ en.grows f) in
          inl
          (record {
            shared = record { calls = kept_calls s w x.function x.callers y.callers x.state y.state agree.stack; kept = ap (kept_next s x.function) e ∙ k };
            same_act = ap next_id next_there ∙ sym (ap (λ (k : Next). option_map s.statement (next_id k)) e);
            agreeing = record { world = w; agree = agree };
            next = y1;
            acts = calls_there;
            related = record {
              points = inl
                  (record {
                    world = en.world;
                    agree = record {
                      reached = reached_act s h x (Inside c) agree.reached (calls_here c is);
                      reached_there = there_act s h y y1 agree.reached_there calls_there;
                      function_is = refl;
                      rest_is = there.body_is;
                      blocks = en.blocks;
                      frames = en.frames;
                      same = λ l want. wants_inside there.args c en k l want;
                      stack = (
                        record {
                          kept_call = k;
                          call_is = refl;
                          function_is = agree.function_is;
                          target_is = refl;
                          rest_is = refl;
                          frames = grown x.state.frame y.state.frame agree.frames;
                          same = λ l want. en.caller l (agree.same l (h.wanting.before_call x i to g args r l agree.reached e want));
                        },
                        stack_on s w en.world x.function x.callers x.state y.state c en.state grown (want_unmodified s h x agree.reached) en.waiting y.callers agree.stack,
                      );
                    };
                  });
              traces = told_both k;
            };
          })

      -- ---- another, which the slice passes over

      call_of_one : (c : State) → called s.original x.function g args x.state ≡ Some c → s.kept (Calling x.function i g) ≡ false → Replied s x (Acts (Inside c)) y
      call_of_one c is k =
          let here = calls_here c is in
          inr (
            not_shared s h x (ap (kept_next s x.function) e ∙ k),
            record {
              points = inr
                  (record {
                    world = w;
                    above = [];
                    caller = Caller;
                    below = x.callers;
                    callers_are = refl;
                    unkept = k;
                    nobody = λ o. false_true (sym k ∙ (h.telling.call_of_holder x i to g args r agree.reached e o).0);
                    reached = reached_act s h x (Inside c) agree.reached here;
                    reached_there = agree.reached_there;
                    function_is = agree.function_is;
                    rest_is = agree.rest_is ∙ sym (h.projected.skips_call x i to g args r agree.reached e k);
                    blocks = h.staying.blocks w x (Inside c) y.state agree.reached (inl here) agree.blocks;
                    frames = agree.frames;
                    same = λ l want. h.entering.alone w x y i to g args r c l agree e k is (agree.same l (h.wanting.before_call x i to g args r l agree.reached e want));
                    stack = stack_alone s h w x (Inside c) y.state (Caller ∷ []) y.callers agree.reached (inl here) refl agree.blocks agree.stack;
                  });
              traces = told_one k;
            },
          )

      pub call_shared : (o : Option State) → called s.original x.function g args x.state ≡ o → Replied s x (entered i to g (code_at s.original g) (waiting i to x.function r x.state) x.callers x.trace o) y
      call_shared None is = tt
      call_shared (Some c) is =
          by_answer (s.kept (Calling x.function i g)) (λ k. call_of_both c is k) (λ k. call_of_one c is k)

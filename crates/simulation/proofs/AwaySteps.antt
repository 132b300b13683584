-- Steps of the original inside a call that the slice hasn't, and the return from it.
use Rattle.std.proofs.Common.{◌≡◌, ℕ, List, [], ◌∷◌, ◌++◌, append_assoc, map, Option, Some, None, Bool, true, false, inl, inr, refl, sym, ap, ◌∙◌, subst}
use Rattle.c_language.proofs.Tests.{by_answer, false_true}
use Rattle.c_tree.specs.declared.expr.Expr.{Expr}
use Rattle.c_tree.specs.declared.statement.Target.{Target}
use Rattle.c_language.specs.Code.{Act, Code}
use Rattle.c_meaning.specs.Values.{Types, State, shown_of}
use Rattle.c_meaning.specs.Acts.{Made, shows, made, after}
use Rattle.c_meaning.specs.Activations.{code_at, types_in, called, received}
use Rattle.c_meaning.specs.Meaning.{Trace, told, announced}
use Rattle.c_meaning.specs.Steps.{Acts, Moves, Waiting, Point, point, waiting, acted, entered, stored_back, step}
use Rattle.run_facts.specs.KeptCells.{Leads}
use Rattle.run_facts.specs.CallTouching.{called_below}
use Rattle.run_facts.specs.NextSteps.{Ends, Passes, Does, Calls, next_of, stores}
use Rattle.run_facts.proofs.NextSteps.{step_of, step_plain, step_stored}
use Rattle.simulation.specs.Places.{At, Behind, Storing}
use Rattle.simulation.specs.Settings.{Calling, ResultOut, Setting, Reached, seen}
use Rattle.simulation.specs.Agreeing.{Stack, CallersAgree}
use Rattle.simulation.specs.Premises.{back, Premises}
use Rattle.simulation.specs.Abreast.{KeptCalls, IsShared, SameAt}
use Rattle.simulation.proofs.Events.{one_tells}
use Rattle.simulation.proofs.Following.{NoneHold, none_holds, Away, Replied}
use Rattle.simulation.proofs.SharedCalls.{told_as}
use Rattle.simulation.proofs.SharedReturns.{want_below}
use Rattle.simulation.proofs.SharedSteps.{not_so, fails_too, reached_act, reached_move}
use Rattle.simulation.proofs.Stacks.{WantUnmodified, stack_on, called_through, kept_through}
use Rattle.simulation.proofs.Targets.{announced_plain, announced_stored}

module _ (s : Setting) (h : Premises s) where
  -- ---- the first caller at which the slice stands goes on waiting

  module _ (x y : Point) (away : Away s x y) where
    abbrev g : ℕ
    g = called_below away.above x.function

    -- callers below that one
    away_free : WantUnmodified s away.caller.function away.below
    away_free above b below l e want =
        let q : called_below (away.above ++ (away.caller ∷ above)) x.function ≡ called_below above away.caller.function = called_through away.above away.caller above x.function in
        let all : x.callers ≡ (away.above ++ (away.caller ∷ above)) ++ (b ∷ below) = away.callers_are ∙ (ap (λ (cs : List Waiting). away.above ++ (away.caller ∷ cs)) e ∙ sym (append_assoc away.above (away.caller ∷ above) (b ∷ below))) in
        subst (λ (f : ℕ). s.modifies f l ≡ false) q (h.wanting.unmodified x (away.above ++ (away.caller ∷ above)) b below l away.reached all (subst (λ (f : ℕ). s.wanted l (Behind b.function b.call f b.target b.rest)) (sym q) want))

    away_carry : (x1 : Point) (above1 : List Waiting) → Leads s.original x x1 → x1.callers ≡ above1 ++ (away.caller ∷ away.below) → CallersAgree s away.world away.world away.caller.function away.below x.state y.state x1.state y.state
    away_carry x1 above1 lead c above a b below l e fr free same =
        let q : called_below (away.above ++ (away.caller ∷ above)) x.function ≡ called_below above away.caller.function = called_through away.above away.caller above x.function in
        let before : x.callers ≡ (away.above ++ (away.caller ∷ above)) ++ (a ∷ below) = away.callers_are ∙ (ap (λ (cs : List Waiting). away.above ++ (away.caller ∷ cs)) e ∙ sym (append_assoc away.above (away.caller ∷ above) (a ∷ below))) in
        let behind : x1.callers ≡ (above1 ++ (away.caller ∷ above)) ++ (a ∷ below) = c ∙ (ap (λ (cs : List Waiting). above1 ++ (away.caller ∷ cs)) e ∙ sym (append_assoc above1 (away.caller ∷ above) (a ∷ below))) in
        h.staying.unmodified away.world x x1 y.state (seen b y.state) (away.above ++ (away.caller ∷ above)) (above1 ++ (away.caller ∷ above)) a below l away.reached lead before behind away.blocks (subst (λ (f : ℕ). s.modifies f l ≡ false) (sym q) free) same

    away_stack : (x1 : Point) (above1 : List Waiting) → Leads s.original x x1 → x1.callers ≡ above1 ++ (away.caller ∷ away.below) → Stack s away.world away.caller.function away.below y.callers x1.state y.state
    away_stack x1 above1 lead c =
        stack_on s away.world away.world away.caller.function away.below x.state y.state x1.state y.state (λ here there f. f) away_free (away_carry x1 above1 lead c) y.callers away.stack

    pub away_on : (x1 : Point) (above1 : List Waiting) → Leads s.original x x1 → Reached s x1 → x1.callers ≡ above1 ++ (away.caller ∷ away.below) → called_below above1 x1.function ≡ g → NoneHold s x1.function above1 → Away s x1 y
    away_on x1 above1 lead r c q none = record {
      world = away.world;
      above = above1;
      caller = away.caller;
      below = away.below;
      callers_are = c;
      unkept = subst (λ (f : ℕ). s.kept (Calling away.caller.function away.caller.call f) ≡ false) (sym q) away.unkept;
      nobody = none;
      reached = r;
      reached_there = away.reached_there;
      function_is = away.function_is;
      rest_is = away.rest_is;
      blocks = h.staying.blocks away.world x x1 y.state away.reached lead away.blocks;
      frames = away.frames;
      same = λ l want.
          let wanted : s.wanted l (Behind away.caller.function away.caller.call g away.caller.target away.caller.rest) = subst (λ (f : ℕ). s.wanted l (Behind away.caller.function away.caller.call f away.caller.target away.caller.rest)) q want in
          h.staying.unmodified away.world x x1 y.state y.state away.above above1 away.caller away.below l away.reached lead away.callers_are c away.blocks (h.wanting.unmodified x away.above away.caller away.below l away.reached away.callers_are wanted) (away.same l wanted);
      stack = away_stack x1 above1 lead c;
    }

    pub away_unshared : IsShared s x → ⊥
    away_unshared shared =
        let kept : s.kept (Calling away.caller.function away.caller.call g) ≡ true = kept_through s away.above away.caller away.below x.function (subst (λ (cs : List Waiting). KeptCalls s x.function cs) away.callers_are shared.calls) in
        false_true (sym away.unkept ∙ kept)

    -- ---- its steps

    module _ (traces : SameAt s x.trace.events y.trace.events) where
      nothing_held : (b : Bool) → (b ≡ true → s.holds x.function) → b ≡ false
      nothing_held b f = not_so b (λ e. none_holds s x.function away.above away.nobody (f e))

      pub act_away : (i : ℕ) (a : Act) (go : Made → Code) → next_of x.rest ≡ Does i a go → (o : Option Made) → made (types_in s.original x.function) a x.state ≡ o → Replied s x (acted x.function i go x.state x.callers x.trace o) y
      act_away i a go e None is = tt
      act_away i a go e (Some v) is =
          let x1 : Point = point x.function (go v) (after i v x.state) x.callers (told i v x.trace) in
          let here : step s.original x ≡ Acts x1 = step_of s.original x (Does i a go) e ∙ ap (λ (o : Option Made). acted x.function i go x.state x.callers x.trace o) is in
          inr (
            away_unshared,
            record {
              points = inr (away_on x1 away.above (inl here) (reached_act s h x x1 away.reached here) away.callers_are refl away.nobody);
              traces = one_tells s x.trace.events y.trace.events (record { statement = i; values = map shown_of v.values }) (nothing_held (s.criterion i) (λ c. (h.telling.act_kept x i a go away.reached e c).1)) traces;
            },
          )

      pub move_away : (change : Types → State → State) (r : Code) → next_of x.rest ≡ Passes change r → Replied s x (Moves (point x.function r (change (types_in s.original x.function) x.state) x.callers x.trace)) y
      move_away change r e =
          let x1 : Point = point x.function r (change (types_in s.original x.function) x.state) x.callers x.trace in
          let here : step s.original x ≡ Moves x1 = step_of s.original x (Passes change r) e in
          inr (record { points = inr (away_on x1 away.above (inr here) (reached_move s h x x1 away.reached here) away.callers_are refl away.nobody); traces = traces })

      call_told : (i : ℕ) (to : Target) (k : ℕ) (args : List Expr) (r : Code) → next_of x.rest ≡ Calls i to k args r → SameAt s (announced i to x.trace).events y.trace.events
      call_told i to k args r e =
          by_answer (stores to) (λ st. told_as s (announced i to x.trace) x.trace y.trace y.trace (announced_stored i to x.trace st) refl traces) (λ st. told_as s (announced i to x.trace) (told i (shows [] []) x.trace) y.trace y.trace (announced_plain i to x.trace st) refl (one_tells s x.trace.events y.trace.events (record { statement = i; values = [] }) (nothing_held (s.criterion i) (λ c. (h.telling.call_kept x i to k args r away.reached e c).1)) traces))

      pub call_away : (i : ℕ) (to : Target) (k : ℕ) (args : List Expr) (r : Code) → next_of x.rest ≡ Calls i to k args r → (o : Option State) → called s.original x.function k args x.state ≡ o → Replied s x (entered i to k (code_at s.original k) (waiting i to x.function r x.state) x.callers x.trace o) y
      call_away i to k args r e None is = tt
      call_away i to k args r e (Some c) is =
          let caller : Waiting = waiting i to x.function r x.state in
          let x1 : Point = point k (code_at s.original k) c (caller ∷ x.callers) (announced i to x.trace) in
          let here : step s.original x ≡ Acts x1 = step_of s.original x (Calls i to k args r) e ∙ ap (λ (o : Option State). entered i to k (code_at s.original k) caller x.callers x.trace o) is in
          inr (
            away_unshared,
            record {
              points = inr (away_on x1 (caller ∷ away.above) (inl here) (reached_act s h x x1 away.reached here) (ap (λ (cs : List Waiting). caller ∷ cs) away.callers_are) refl ((λ q. none_holds s x.function away.above away.nobody (h.telling.call_of_holder x i to k args r away.reached e q).1), away.nobody));
              traces = call_told i to k args r e;
            },
          )

      -- a return to a caller in that call
      module _ (e : next_of x.rest ≡ Ends) (c : Waiting) (cs : List Waiting) (above_is : away.above ≡ c ∷ cs) where
        all_are : x.callers ≡ c ∷ (cs ++ (away.caller ∷ away.below))
        all_are = away.callers_are ∙ ap (λ (ds : List Waiting). ds ++ (away.caller ∷ away.below)) above_is

        below_holds : NoneHold s c.function cs
        below_holds = (subst (λ (ds : List Waiting). NoneHold s x.function ds) above_is away.nobody).1

        back_on : (m : State) (t : Trace) → SameAt s t.events y.trace.events → step s.original x ≡ Moves (point c.function c.rest m (cs ++ (away.caller ∷ away.below)) t) → Replied s x (Moves (point c.function c.rest m (cs ++ (away.caller ∷ away.below)) t)) y
        back_on m t told_so here =
            let x1 : Point = point c.function c.rest m (cs ++ (away.caller ∷ away.below)) t in
            inr (record { points = inr (away_on x1 cs (inr here) (reached_move s h x x1 away.reached here) refl (sym (ap (λ (ds : List Waiting). called_below ds x.function) above_is)) below_holds); traces = told_so })

        pub lost_plain : stores c.target ≡ false → Replied s x (Moves (point c.function c.rest (back s x c) (cs ++ (away.caller ∷ away.below)) x.trace)) y
        lost_plain st = back_on (back s x c) x.trace traces (step_plain s.original x c (cs ++ (away.caller ∷ away.below)) e all_are st)

        pub lost_stored : stores c.target ≡ true → (o : Option Made) → received (types_in s.original c.function) c.target x.state.returned (back s x c) ≡ o → Replied s x (stored_back c (back s x c) (cs ++ (away.caller ∷ away.below)) x.trace o) y
        lost_stored st None is = tt
        lost_stored st (Some v) is =
            let held : s.criterion c.call ≡ false = not_so (s.criterion c.call) (λ q. none_holds s c.function cs below_holds (h.telling.store_kept x c (cs ++ (away.caller ∷ away.below)) away.reached e all_are st q).1) in
            back_on (after c.call v (back s x c)) (told c.call v x.trace) (one_tells s x.trace.events y.trace.events (record { statement = c.call; values = map shown_of v.values }) held traces) (step_stored s.original x c (cs ++ (away.caller ∷ away.below)) e all_are st ∙ ap (λ (o : Option Made). stored_back c (back s x c) (cs ++ (away.caller ∷ away.below)) x.trace o) is)

      -- ---- the return from that call

      module _ (e : next_of x.rest ≡ Ends) (none_above : away.above ≡ []) where
        abbrev a : Waiting
        a = away.caller

        left_callers : x.callers ≡ a ∷ away.below
        left_callers = away.callers_are ∙ ap (λ (ds : List Waiting). ds ++ (a ∷ away.below)) none_above

        called_is : g ≡ x.function
        called_is = ap (λ (ds : List Waiting). called_below ds x.function) none_above

        left_unkept : s.kept (Calling a.function a.call x.function) ≡ false
        left_unkept = subst (λ (f : ℕ). s.kept (Calling a.function a.call f) ≡ false) called_is away.unkept

        left_seen : (l : s.L) → s.wanted l (Behind a.function a.call x.function a.target a.rest) → s.Same away.world l (seen a x.state) y.state
        left_seen l want = away.same l (subst (λ (f : ℕ). s.wanted l (Behind a.function a.call f a.target a.rest)) (sym called_is) want)

        -- nothing that is wanted behind the call was modified by it
        left_same : (l : s.L) → s.wanted l (Storing a.function a.call x.function a.target a.rest) → s.Same away.world l (back s x a) y.state
        left_same l want =
            by_answer (s.modifies x.function l) (λ m. false_true (sym left_unkept ∙ h.closing.call_of_out a.function a.call x.function l (h.closing.actual_out x a away.below l away.reached e left_callers want m))) (λ m. h.returning.left away.world x y a away.below l away.reached away.reached_there e left_callers away.blocks away.frames (left_seen l (h.wanting.before_outs x a away.below l away.reached e left_callers m want)))

        -- callers below see what they saw
        left_stack : (x1 : Point) → Leads s.original x x1 → x1.callers ≡ away.below → Stack s away.world a.function away.below y.callers x1.state y.state
        left_stack x1 lead c =
            stack_on s away.world away.world a.function away.below x.state y.state x1.state y.state (λ here there f. f) (want_below s h x a away.below away.reached left_callers) (λ above b b1 below l q fr free same. h.staying.unmodified away.world x x1 y.state (seen b1 y.state) (a ∷ above) above b below l away.reached lead (left_callers ∙ ap (λ (cs : List Waiting). a ∷ cs) q) (c ∙ q) away.blocks free same) y.callers away.stack

        left_back : (m : State) (t : Trace) → m.frame ≡ a.frame → SameAt s t.events y.trace.events → step s.original x ≡ Moves (point a.function a.rest m away.below t) → ((l : s.L) → s.wanted l (At a.function a.rest) → s.Same away.world l m y.state) → Replied s x (Moves (point a.function a.rest m away.below t)) y
        left_back m t frame_is told_so here same =
            let x1 : Point = point a.function a.rest m away.below t in
            inr
            (record {
              points = inl
                  (record {
                    world = away.world;
                    agree = record {
                      reached = reached_move s h x x1 away.reached here;
                      reached_there = away.reached_there;
                      function_is = away.function_is;
                      rest_is = away.rest_is;
                      blocks = h.staying.blocks away.world x x1 y.state away.reached (inr here) away.blocks;
                      frames = subst (λ (f : ℕ → Option ℕ). s.Frames away.world f y.state.frame) (sym frame_is) away.frames;
                      same = same;
                      stack = left_stack x1 (inr here) refl;
                    };
                  });
              traces = told_so;
            })

        pub left_plain : stores a.target ≡ false → Replied s x (Moves (point a.function a.rest (back s x a) away.below x.trace)) y
        left_plain st =
            left_back (back s x a) x.trace refl traces (step_plain s.original x a away.below e left_callers st) (λ l want. left_same l (h.wanting.without_store x a away.below l away.reached e left_callers st want))

        pub left_stored : stores a.target ≡ true → (o : Option Made) → received (types_in s.original a.function) a.target x.state.returned (back s x a) ≡ o → Replied s x (stored_back a (back s x a) away.below x.trace o) y
        left_stored st None is = tt
        left_stored st (Some v) is =
            let unkept_result : s.kept (ResultOut a.function a.call x.function) ≡ false = fails_too (s.kept (Calling a.function a.call x.function)) (s.kept (ResultOut a.function a.call x.function)) left_unkept (λ k. h.closing.call_of_result a.function a.call x.function k) in
            let told_none : s.criterion a.call ≡ false = fails_too (s.kept (ResultOut a.function a.call x.function)) (s.criterion a.call) unkept_result (λ q. (h.telling.store_kept x a away.below away.reached e left_callers st q).0) in
            left_back (after a.call v (back s x a)) (told a.call v x.trace) refl (one_tells s x.trace.events y.trace.events (record { statement = a.call; values = map shown_of v.values }) told_none traces) (step_stored s.original x a away.below e left_callers st ∙ ap (λ (o : Option Made). stored_back a (back s x a) away.below x.trace o) is) (λ l want. by_answer (s.defines (ResultOut a.function a.call x.function) l) (λ d. false_true (sym unkept_result ∙ h.closing.result x a away.below l away.reached e left_callers st want d)) (λ d. h.returning.left_stored away.world x y a away.below v l away.reached away.reached_there e left_callers away.blocks away.frames st is d (left_same l (h.wanting.before_store x a away.below l away.reached e left_callers st (fails_too (s.defines (ResultOut a.function a.call x.function) l) (s.kills (ResultOut a.function a.call x.function) l) d (h.closing.result_kills a.function a.call x.function l)) want))))

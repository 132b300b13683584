-- Returns, where the original stands in an activation that kept calls alone have reached.
use Rattle.std.proofs.Common.{◌≡◌, List, [], ◌∷◌, map, Option, Some, None, Bool, true, false, inl, inr, sym, ap, ◌∙◌}
use Rattle.c_language.proofs.Tests.{by_answer, false_true}
use Rattle.c_meaning.specs.Values.{shown_of}
use Rattle.c_meaning.specs.Acts.{Made, after}
use Rattle.c_meaning.specs.Activations.{types_in, received}
use Rattle.c_meaning.specs.Meaning.{told}
use Rattle.c_meaning.specs.Steps.{Stops, Moves, Waiting, Point, point, stored_back, step}
use Rattle.run_facts.specs.NextSteps.{Ends, next_of, stores}
use Rattle.run_facts.proofs.NextSteps.{step_back, step_plain, step_stored}
use Rattle.simulation.specs.Places.{Storing}
use Rattle.simulation.specs.Settings.{ResultOut, Setting, Reached}
use Rattle.simulation.specs.Agreeing.{Stack, Agree}
use Rattle.simulation.specs.Premises.{back, back_there, Premises}
use Rattle.simulation.specs.Abreast.{SameAt}
use Rattle.simulation.proofs.Events.{both_tell, one_tells}
use Rattle.simulation.proofs.Following.{Replied}
use Rattle.simulation.proofs.SharedSteps.{fails_too, reached_move, there_move, stack_together}
use Rattle.simulation.proofs.Stacks.{WantUnmodified, stack_on, Headed, head_of, none_waits}
use Rattle.simulation.proofs.Targets.{kept_stores, dropped_stores, plain_stores}

module _ (s : Setting) (h : Premises s) where
  -- of the callers that wait below the first
  pub want_below : (x : Point) (a : Waiting) (ws : List Waiting) → Reached s x → x.callers ≡ a ∷ ws → WantUnmodified s a.function ws
  want_below x a ws r c above b below l e want =
      h.wanting.unmodified x (a ∷ above) b below l r (c ∙ ap (λ (cs : List Waiting). a ∷ cs) e) want

  module _ (x y : Point) (w : s.W) (agree : Agree s w x y) (traces : SameAt s x.trace.events y.trace.events) (e : next_of x.rest ≡ Ends) where
    ends_there : next_of y.rest ≡ Ends
    ends_there = ap next_of agree.rest_is ∙ h.projected.ends x agree.reached e

    -- main ends in both
    pub main_ends : x.callers ≡ [] → Replied s x Stops y
    main_ends c = (
      record { world = w; agree = agree },
      step_back s.slice y [] ends_there (none_waits s w x.function x.callers y.callers x.state y.state c agree.stack),
    )

    module _ (a : Waiting) (ws : List Waiting) (c : x.callers ≡ a ∷ ws) where
      abbrev Head : Type 0
      Head = Headed s w x.function a ws y.callers x.state y.state

      head : Head
      head = head_of s w x.function x.callers a ws y.callers x.state y.state c agree.stack

      abbrev keeps_result : Bool
      keeps_result = s.kept (ResultOut a.function a.call x.function)

      -- where the call is done, and its result not stored yet, what is wanted agrees
      back_same : (l : s.L) → s.wanted l (Storing a.function a.call x.function a.target a.rest) → s.Same w l (back s x a) (back_there s y head.first)
      back_same l want =
          let done = h.returning.plain w x y a head.first ws head.others agree e c head.callers_are in
          by_answer (s.modifies x.function l) (λ m. done.outside l (h.closing.modified_outside x.function l m) (agree.same l (h.wanting.passed_out x l agree.reached e (h.closing.formal_out x a ws l agree.reached e c (h.closing.actual_out x a ws l agree.reached e c want m))))) (λ m. done.caller l (head.waits.same l (h.wanting.before_outs x a ws l agree.reached e c m want)))

      back_blocks : s.Blocks w (back s x a) (back_there s y head.first)
      back_blocks = (h.returning.plain w x y a head.first ws head.others agree e c head.callers_are).blocks

      back_stack : Stack s w a.function ws head.others (back s x a) (back_there s y head.first)
      back_stack =
          let done = h.returning.plain w x y a head.first ws head.others agree e c head.callers_are in
          stack_on s w w a.function ws x.state y.state (back s x a) (back_there s y head.first) (λ here there f. f) (want_below x a ws agree.reached c) done.waiting head.others head.stack

      -- ---- without a store

      abbrev Back : Point
      Back = point a.function a.rest (back s x a) ws x.trace

      abbrev BackThere : Point
      BackThere = point head.first.function head.first.rest (back_there s y head.first) head.others y.trace

      -- the slice goes on without a store
      plain_there : stores head.first.target ≡ false → step s.slice y ≡ Moves BackThere
      plain_there st = step_plain s.slice y head.first head.others ends_there head.callers_are st

      pub return_plain : stores a.target ≡ false → Replied s x (Moves Back) y
      return_plain st =
          let here : step s.original x ≡ Moves Back = step_plain s.original x a ws e c st in
          let dropped : stores head.first.target ≡ false = ap stores head.waits.target_is ∙ plain_stores keeps_result (s.target a.target) (h.projected.targets a.target ∙ st) in
          let there = plain_there dropped in
          inl
          (record {
            next = BackThere;
            moves = there;
            related = record {
              points = inl
                  (record {
                    world = w;
                    agree = record {
                      reached = reached_move s h x Back agree.reached here;
                      reached_there = there_move s h y BackThere agree.reached_there there;
                      function_is = head.waits.function_is;
                      rest_is = head.waits.rest_is;
                      blocks = back_blocks;
                      frames = head.waits.frames;
                      same = λ l want. back_same l (h.wanting.without_store x a ws l agree.reached e c st want);
                      stack = back_stack;
                    };
                  });
              traces = traces;
            };
          })

      -- ---- with a store

      module _ (st : stores a.target ≡ true) where
        abbrev Receipt : Option Made
        Receipt = received (types_in s.original a.function) a.target x.state.returned (back s x a)

        abbrev Store : Made → Point
        Store v = point a.function a.rest (after a.call v (back s x a)) ws (told a.call v x.trace)

        stores_here : (v : Made) → Receipt ≡ Some v → step s.original x ≡ Moves (Store v)
        stores_here v is =
            step_stored s.original x a ws e c st ∙ ap (λ (o : Option Made). stored_back a (back s x a) ws x.trace o) is

        -- both store the result
        store_of_both : (v : Made) → Receipt ≡ Some v → keeps_result ≡ true → Replied s x (Moves (Store v)) y
        store_of_both v is k =
            let b = head.first in
            let result_same : s.Same w (s.result x.function) x.state y.state = agree.same (s.result x.function) (h.wanting.passed_out x (s.result x.function) agree.reached e (h.closing.formal_result x a ws agree.reached e c k)) in
            let did = h.returning.stored w x y a b ws head.others v agree e c head.callers_are st k result_same (λ l u. back_same l (h.wanting.result_used x a ws l agree.reached e c st k u)) is in
            let u = did.values in
            let n1 = after b.call u (back_there s y b) in
            let y1 : Point = point b.function b.rest n1 head.others (told b.call u y.trace) in
            let stores_too : stores b.target ≡ true = ap stores head.waits.target_is ∙ (kept_stores keeps_result (s.target a.target) k ∙ (h.projected.targets a.target ∙ st)) in
            let there : step s.slice y ≡ Moves y1 = step_stored s.slice y b head.others ends_there head.callers_are stores_too ∙ ap (λ (o : Option Made). stored_back b (back_there s y b) head.others y.trace o) did.received_is in
            inl
            (record {
              next = y1;
              moves = there;
              related = record {
                points = inl
                    (record {
                      world = did.together.world;
                      agree = record {
                        reached = reached_move s h x (Store v) agree.reached (stores_here v is);
                        reached_there = there_move s h y y1 agree.reached_there there;
                        function_is = head.waits.function_is;
                        rest_is = head.waits.rest_is;
                        blocks = did.together.blocks;
                        frames = did.together.frames;
                        same = λ l want. by_answer (s.kills (ResultOut a.function a.call x.function) l) (λ d. did.together.same l (inl d)) (λ d. did.together.same l (inr (back_same l (h.wanting.before_store x a ws l agree.reached e c st d want))));
                        stack = stack_together s h w a.function ws head.others (s.kills (ResultOut a.function a.call x.function)) (back s x a) (back_there s y b) (after a.call v (back s x a)) n1 (want_below x a ws agree.reached c) did.together back_stack;
                      };
                    });
                traces = both_tell s x.trace.events y.trace.events a.call b.call (map shown_of v.values) (map shown_of u.values) head.waits.call_is did.shown (h.telling.store_ranks x a ws agree.reached e c head.waits.kept_call) traces;
              };
            })

        -- the original alone does
        store_of_one : (v : Made) → Receipt ≡ Some v → keeps_result ≡ false → Replied s x (Moves (Store v)) y
        store_of_one v is k =
            let b = head.first in
            let did = h.returning.dropped w x y a b ws head.others v agree e c head.callers_are st k is in
            let drops : stores b.target ≡ false = ap stores head.waits.target_is ∙ dropped_stores keeps_result (s.target a.target) k in
            let there = plain_there drops in
            inl
            (record {
              next = BackThere;
              moves = there;
              related = record {
                points = inl
                    (record {
                      world = w;
                      agree = record {
                        reached = reached_move s h x (Store v) agree.reached (stores_here v is);
                        reached_there = there_move s h y BackThere agree.reached_there there;
                        function_is = head.waits.function_is;
                        rest_is = head.waits.rest_is;
                        blocks = did.blocks;
                        frames = head.waits.frames;
                        same = λ l want. by_answer (s.defines (ResultOut a.function a.call x.function) l) (λ d. false_true (sym k ∙ h.closing.result x a ws l agree.reached e c st want d)) (λ d. did.same l d (back_same l (h.wanting.before_store x a ws l agree.reached e c st (fails_too (s.defines (ResultOut a.function a.call x.function) l) (s.kills (ResultOut a.function a.call x.function) l) d (h.closing.result_kills a.function a.call x.function l)) want)));
                        stack = stack_on s w w a.function ws (back s x a) (back_there s y b) (after a.call v (back s x a)) (back_there s y b) (λ here there f. f) (want_below x a ws agree.reached c) did.waiting head.others back_stack;
                      };
                    });
                traces = one_tells s x.trace.events y.trace.events (record { statement = a.call; values = map shown_of v.values }) (fails_too keeps_result (s.criterion a.call) k (λ q. (h.telling.store_kept x a ws agree.reached e c st q).0)) traces;
              };
            })

        pub return_stored : (o : Option Made) → Receipt ≡ o → Replied s x (stored_back a (back s x a) ws x.trace o) y
        return_stored None is = tt
        return_stored (Some v) is =
            by_answer keeps_result (λ k. store_of_both v is k) (λ k. store_of_one v is k)

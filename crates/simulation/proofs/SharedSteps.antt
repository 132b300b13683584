-- Acts and moves without an act, where the original stands in an activation that kept calls alone have reached.
use Rattle.std.proofs.Common.{◌≡◌, ℕ, List, [], ◌∷◌, ◌++◌, append_assoc, map, Option, Some, None, Bool, true, false, inl, inr, refl, sym, ap, ◌∙◌}
use Rattle.std.specs.Prelude.{option_map}
use Rattle.c_language.proofs.Tests.{by_answer, false_true}
use Rattle.c_language.specs.Code.{Act, Code}
use Rattle.c_meaning.specs.Values.{Types, State, shown_of}
use Rattle.c_meaning.specs.Acts.{Made, made, after}
use Rattle.c_meaning.specs.Activations.{types_in}
use Rattle.c_meaning.specs.Meaning.{told}
use Rattle.c_meaning.specs.Steps.{Acts, Moves, Waiting, Point, point, acted, step, machine, beginning}
use Rattle.run_facts.specs.KeptCells.{Leads}
use Rattle.run_facts.specs.NextSteps.{Next, Passes, Does, next_of, next_id}
use Rattle.run_facts.proofs.NextSteps.{step_of, reach_act, reach_move}
use Rattle.simulation.specs.Settings.{Statement, Setting, Reached, ReachedThere, seen, kept_next}
use Rattle.simulation.specs.Agreeing.{Stack, Agree, Together}
use Rattle.simulation.specs.Premises.{Premises}
use Rattle.simulation.specs.Abreast.{IsShared, SameAt}
use Rattle.simulation.proofs.Events.{both_tell, one_tells}
use Rattle.simulation.proofs.Following.{Replied}
use Rattle.simulation.proofs.Stacks.{WantUnmodified, stack_on, kept_calls}

pub not_so : (b : Bool) → (b ≡ true → ⊥) → b ≡ false
not_so true f = absurd (f refl)
not_so false f = refl

pub fails_too : (b c : Bool) → b ≡ false → (c ≡ true → b ≡ true) → c ≡ false
fails_too b true e f = let h = f refl in cc
fails_too b false e f = refl

module _ (s : Setting) (h : Premises s) where
  pub reached_act : (x x1 : Point) → Reached s x → step s.original x ≡ Acts x1 → Reached s x1
  reached_act x x1 r e = reach_act (machine s.original) (beginning s.original s.input) x x1 r e

  pub reached_move : (x x1 : Point) → Reached s x → step s.original x ≡ Moves x1 → Reached s x1
  reached_move x x1 r e = reach_move (machine s.original) (beginning s.original s.input) x x1 r e

  pub there_act : (y y1 : Point) → ReachedThere s y → step s.slice y ≡ Acts y1 → ReachedThere s y1
  there_act y y1 r e = reach_act (machine s.slice) (beginning s.slice s.input) y y1 r e

  pub there_move : (y y1 : Point) → ReachedThere s y → step s.slice y ≡ Moves y1 → ReachedThere s y1
  there_move y y1 r e = reach_move (machine s.slice) (beginning s.slice s.input) y y1 r e

  pub want_unmodified : (x : Point) → Reached s x → WantUnmodified s x.function x.callers
  want_unmodified x r above a below l e want = h.wanting.unmodified x above a below l r e want

  pub not_shared : (x : Point) → kept_next s x.function (next_of x.rest) ≡ false → IsShared s x → ⊥
  not_shared x k shared = false_true (sym k ∙ shared.kept)

  -- callers after an act, a move or a store of both
  pub stack_together : (w : s.W) (f : ℕ) (callers bs : List Waiting) (killed : s.L → Bool) (m n m1 n1 : State) → WantUnmodified s f callers → (t : Together s w f callers killed m n m1 n1) → Stack s w f callers bs m n → Stack s t.world f callers bs m1 n1
  stack_together w f callers bs killed m n m1 n1 free t st =
      stack_on s w t.world f callers m n m1 n1 (λ here there k. h.growing.frames w t.world here there t.grows k) free t.waiting bs st

  -- callers where the original alone goes on, from x to a state of x1, and this many more callers wait there
  pub stack_alone : (w : s.W) (x x1 : Point) (n : State) (more bs : List Waiting) → Reached s x → Leads s.original x x1 → x1.callers ≡ more ++ x.callers → s.Blocks w x.state n → Stack s w x.function x.callers bs x.state n → Stack s w x.function x.callers bs x1.state n
  stack_alone w x x1 n more bs r lead more_is blocks st =
      stack_on s w w x.function x.callers x.state n x1.state n (λ here there k. k) (want_unmodified x r) (λ above a b below l e fr free same. h.staying.unmodified w x x1 n (seen b n) above (more ++ above) a below l r lead e (more_is ∙ (ap (λ (cs : List Waiting). more ++ cs) e ∙ sym (append_assoc more above (a ∷ below)))) blocks free same) bs st

  -- ---- an act

  module _ (x y : Point) (w : s.W) (agree : Agree s w x y) (traces : SameAt s x.trace.events y.trace.events) where
    module _ (i : ℕ) (a : Act) (go : Made → Code) (e : next_of x.rest ≡ Does i a go) where
      abbrev After : Made → Point
      After v = point x.function (go v) (after i v x.state) x.callers (told i v x.trace)

      acts_here : (v : Made) → made (types_in s.original x.function) a x.state ≡ Some v → step s.original x ≡ Acts (After v)
      acts_here v is = step_of s.original x (Does i a go) e ∙ ap (λ (o : Option Made). acted x.function i go x.state x.callers x.trace o) is

      -- a kept act is done by both
      act_of_both : (v : Made) → made (types_in s.original x.function) a x.state ≡ Some v → s.kept (Statement x.function i) ≡ true → Replied s x (Acts (After v)) y
      act_of_both v is k =
          let there = h.projected.acts x i a go agree.reached e k in
          let next_there : next_of y.rest ≡ Does (s.statement i) there.act there.onward = ap next_of agree.rest_is ∙ there.next_is in
          let did = h.acting.both w x y i a go v there.act there.onward agree e k next_there (λ l u. agree.same l (h.wanting.used x i a go l agree.reached e k u)) is in
          let u = did.values in
          let y1 : Point = point y.function (there.onward u) (after (s.statement i) u y.state) y.callers (told (s.statement i) u y.trace) in
          let acts_there : step s.slice y ≡ Acts y1 = step_of s.slice y (Does (s.statement i) there.act there.onward) next_there ∙ ap (λ (o : Option Made). acted y.function (s.statement i) there.onward y.state y.callers y.trace o) did.made_is in
          inl
          (record {
            shared = record { calls = kept_calls s w x.function x.callers y.callers x.state y.state agree.stack; kept = ap (kept_next s x.function) e ∙ k };
            same_act = ap next_id next_there ∙ sym (ap (λ (k : Next). option_map s.statement (next_id k)) e);
            agreeing = record { world = w; agree = agree };
            next = y1;
            acts = acts_there;
            related = record {
              points = inl
                  (record {
                    world = did.together.world;
                    agree = record {
                      reached = reached_act x (After v) agree.reached (acts_here v is);
                      reached_there = there_act y y1 agree.reached_there acts_there;
                      function_is = agree.function_is;
                      rest_is = there.goes_on v u did.shown;
                      blocks = did.together.blocks;
                      frames = did.together.frames;
                      same = λ l want. by_answer (s.kills (Statement x.function i) l) (λ c. did.together.same l (inl c)) (λ c. did.together.same l (inr (agree.same l (h.wanting.before_act x i a go v l agree.reached e is c want))));
                      stack = stack_together w x.function x.callers y.callers (s.kills (Statement x.function i)) x.state y.state (after i v x.state) (after (s.statement i) u y.state) (want_unmodified x agree.reached) did.together agree.stack;
                    };
                  });
              traces = both_tell s x.trace.events y.trace.events i (s.statement i) (map shown_of v.values) (map shown_of u.values) refl did.shown (h.telling.act_ranks x i a go agree.reached e k) traces;
            };
          })

      -- another by the original alone
      act_of_one : (v : Made) → made (types_in s.original x.function) a x.state ≡ Some v → s.kept (Statement x.function i) ≡ false → Replied s x (Acts (After v)) y
      act_of_one v is k =
          let here = acts_here v is in
          inr (
            not_shared x (ap (kept_next s x.function) e ∙ k),
            record {
              points = inl
                  (record {
                    world = w;
                    agree = record {
                      reached = reached_act x (After v) agree.reached here;
                      reached_there = agree.reached_there;
                      function_is = agree.function_is;
                      rest_is = agree.rest_is ∙ sym (h.projected.skips_act x i a go v agree.reached e k is);
                      blocks = h.staying.blocks w x (After v) y.state agree.reached (inl here) agree.blocks;
                      frames = agree.frames;
                      same = λ l want. by_answer (s.defines (Statement x.function i) l) (λ d. false_true (sym k ∙ h.closing.act x i a go v l agree.reached e is want d)) (λ d. h.acting.alone w x y i a go v l agree e k is want d (agree.same l (h.wanting.before_act x i a go v l agree.reached e is (fails_too (s.defines (Statement x.function i) l) (s.kills (Statement x.function i) l) d (h.closing.statement_kills x.function i l)) want)));
                      stack = stack_alone w x (After v) y.state [] y.callers agree.reached (inl here) refl agree.blocks agree.stack;
                    };
                  });
              traces = one_tells s x.trace.events y.trace.events (record { statement = i; values = map shown_of v.values }) (fails_too (s.kept (Statement x.function i)) (s.criterion i) k (λ c. (h.telling.act_kept x i a go agree.reached e c).0)) traces;
            },
          )

      pub act_shared : (o : Option Made) → made (types_in s.original x.function) a x.state ≡ o → Replied s x (acted x.function i go x.state x.callers x.trace o) y
      act_shared None is = tt
      act_shared (Some v) is =
          by_answer (s.kept (Statement x.function i)) (λ k. act_of_both v is k) (λ k. act_of_one v is k)

    -- ---- a move without an act

    module _ (change : Types → State → State) (r : Code) (e : next_of x.rest ≡ Passes change r) where
      abbrev Past : Point
      Past = point x.function r (change (types_in s.original x.function) x.state) x.callers x.trace

      moves_here : step s.original x ≡ Moves Past
      moves_here = step_of s.original x (Passes change r) e

      move_of_both : s.keeps_move x.function x.rest ≡ true → Replied s x (Moves Past) y
      move_of_both k =
          let there = h.projected.moves x change r agree.reached e k in
          let q = s.project x.function r in
          let next_there : next_of y.rest ≡ Passes there.change q = ap next_of agree.rest_is ∙ there.next_is in
          let n1 = there.change (types_in s.slice y.function) y.state in
          let t = h.moving.both w x y change there.change r q agree e k next_there in
          let y1 : Point = point y.function q n1 y.callers y.trace in
          let moves_there : step s.slice y ≡ Moves y1 = step_of s.slice y (Passes there.change q) next_there in
          inl
          (record {
            next = y1;
            moves = moves_there;
            related = record {
              points = inl
                  (record {
                    world = t.world;
                    agree = record {
                      reached = reached_move x Past agree.reached moves_here;
                      reached_there = there_move y y1 agree.reached_there moves_there;
                      function_is = agree.function_is;
                      rest_is = refl;
                      blocks = t.blocks;
                      frames = t.frames;
                      same = λ l want. t.same l (inr (agree.same l (h.wanting.before_move x change r l agree.reached e want)));
                      stack = stack_together w x.function x.callers y.callers (λ l. false) x.state y.state (change (types_in s.original x.function) x.state) n1 (want_unmodified x agree.reached) t agree.stack;
                    };
                  });
              traces = traces;
            };
          })

      move_of_one : s.keeps_move x.function x.rest ≡ false → Replied s x (Moves Past) y
      move_of_one k =
          inr
          (record {
            points = inl
                (record {
                  world = w;
                  agree = record {
                    reached = reached_move x Past agree.reached moves_here;
                    reached_there = agree.reached_there;
                    function_is = agree.function_is;
                    rest_is = agree.rest_is ∙ sym (h.projected.skips_move x change r agree.reached e k);
                    blocks = h.staying.blocks w x Past y.state agree.reached (inr moves_here) agree.blocks;
                    frames = h.moving.alone_frames w x y change r agree e k;
                    same = λ l want. h.moving.alone w x y change r l agree e k want (agree.same l (h.wanting.before_move x change r l agree.reached e want));
                    stack = stack_alone w x Past y.state [] y.callers agree.reached (inr moves_here) refl agree.blocks agree.stack;
                  };
                });
            traces = traces;
          })

      pub move_shared : Replied s x (Moves Past) y
      move_shared = by_answer (s.keeps_move x.function x.rest) (λ k. move_of_both k) (λ k. move_of_one k)

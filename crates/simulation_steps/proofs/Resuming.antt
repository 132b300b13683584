-- Where a kept call is done, the callee's blocks go in both, and the caller's variables are named again.
use Rattle.std.proofs.Common.{◌≡◌, ℕ, List, [], ◌∷◌, Option, Bool, true, false, inl, refl, sym, ap, ◌∙◌, subst}
use Rattle.c_language.proofs.Tests.{false_true}
use Rattle.c_meaning.specs.declared.value.Value.{Value}
use Rattle.c_meaning.specs.Memory.{Block}
use Rattle.c_meaning.specs.Values.{State, all_closed}
use Rattle.c_meaning.specs.Activations.{executable, variables_at}
use Rattle.c_meaning.specs.Steps.{Waiting, Point}
use Rattle.dep_model.specs.declared.location.Location.{Location}
use Rattle.dep_model.specs.Doings.{Calls, doings_of}
use Rattle.dep_model.specs.DoingEffects.{result_of}
use Rattle.dep_model.specs.ModRef.{is_outside}
use Rattle.dep_model.proofs.Membership.{contains_of_in}
use Rattle.run_facts.specs.NextSteps.{Ends, next_of}
use Rattle.simulation.specs.Renaming.{World, Names, StandsForOne, BlocksStand, AlikeAt}
use Rattle.simulation.specs.Settings.{Calling, Setting, Reached}
use Rattle.simulation.specs.Agreeing.{Agree}
use Rattle.simulation.specs.Premises.{Resumed}
use Rattle.simulation.proofs.Stacks.{head_of}
use Rattle.simulation_locations.proofs.ChainedRules.{waiting_calls}
use Rattle.simulation_places.specs.Counterparts.{names_of}
use Rattle.simulation_steps.proofs.Closing.{viewed, AreAmong, blocks_closed, alike_closed}
use Rattle.simulation_steps.proofs.LikeRoutines.{among_variables}
use Rattle.simulation_steps.specs.SlicePairs.{SlicePair, twin_of, setting_over}

-- ---- what doesn't ask which activation runs

-- blocks that stand for blocks do so whatever runs
pub viewed_blocks : (names : Names) (w : World) (m n : State) (f g : ℕ → Option ℕ) (r u : Option Value) → BlocksStand names w m n → BlocksStand names w (viewed f r m) (viewed g u n)
viewed_blocks names w m n f g r u h = record {
  structs_are = h.structs_are;
  count_is = h.count_is;
  each = λ c there e. one c there (h.each c there e);
  one_to_one = h.one_to_one;
}
  where
    one : (c : ℕ) (there : Block) → StandsForOne names w m n c there → StandsForOne names w (viewed f r m) (viewed g u n) c there
    one c there o = record {
      number = o.number;
      stands = o.stands;
      block = o.block;
      block_is = o.block_is;
      shape_is = o.shape_is;
      kind_is = o.kind_is;
      origin = o.origin;
      origin_there = o.origin_there;
      origin_is = o.origin_is;
      origin_there_is = o.origin_there_is;
      origins_are = o.origins_are;
      gone = o.gone;
    }

-- what is seen outside is the same to each activation
pub alike_outside : (outside : Location → Bool) (w : World) (l : Location) (m n : State) (f g : ℕ → Option ℕ) (r u : Option Value) → outside l ≡ true → ((h : ℕ) → outside (result_of h) ≡ false) → AlikeAt outside w l m n → AlikeAt outside w l (viewed f r m) (viewed g u n)
alike_outside outside w l m n f g r u out inside h = record {
  cells = λ b c path e counts live at. h.cells b c path e (inl out) live at;
  input = h.input;
  result = λ k e. false_true (sym (inside k) ∙ (ap outside (sym e) ∙ out));
}

module _ (pair : SlicePair) (holds : ℕ → Type 0) where
  abbrev s : Setting
  s = setting_over pair holds

  -- the function of a kept call that runs is kept
  pub callee_kept : (x : Point) (b : Waiting) (ws : List Waiting) → Reached s x → x.callers ≡ b ∷ ws → s.kept (Calling b.function b.call x.function) ≡ true → pair.kept.function x.function ≡ true
  callee_kept x b ws reached e kept_call =
      let calls = waiting_calls pair.original pair.analysis pair.vertices (twin_of pair) holds x [] b ws reached e in
      let member = contains_of_in (doings_of pair.original b.function) (Calls b.call b.target x.function calls.args) calls.calls in
      pair.projected.callees b.function b.call x.function b.target calls.args member (pair.projected.calls b.function b.call x.function b.target calls.args member ∙ kept_call)

  pub resumed_both : (w : World) (x y : Point) (b d : Waiting) (ws us : List Waiting) → Agree s w x y → next_of x.rest ≡ Ends → x.callers ≡ b ∷ ws → y.callers ≡ d ∷ us → Resumed s w x y b d ws
  resumed_both w x y b d ws us agree ends e j =
      let names = names_of pair.kept pair.new in
      let xs = variables_at (executable pair.original) x.function in
      let ys = variables_at (executable pair.slice) y.function in
      let kept_there = among_variables pair.original pair.slice pair.analysis pair.kept pair.new pair.vertices pair.calls x.function (callee_kept x b ws agree.reached e (head_of s w x.function x.callers b ws y.callers x.state y.state e agree.stack).waits.kept_call) in
      let among : AreAmong names xs ys = subst (λ g. AreAmong names xs (variables_at (executable pair.slice) g)) (sym agree.function_is) kept_there in
      let closed = alike_closed names w x.state y.state xs ys among agree.frames (is_outside pair.original) in
      record {
        blocks = viewed_blocks names w (all_closed xs x.state) (all_closed ys y.state) b.frame d.frame b.returned d.returned (blocks_closed names w x.state y.state xs ys among agree.frames agree.blocks);
        outside = λ l out same. closed b.frame d.frame b.returned d.returned l (alike_outside (is_outside pair.original) w l x.state y.state b.frame d.frame b.returned d.returned out (λ f. refl) same);
        caller = λ l same. closed b.frame d.frame b.returned d.returned l same;
        waiting = λ above u v below l is frames none same. closed u.frame v.frame u.returned v.returned l same;
      }

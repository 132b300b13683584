-- A kept call and its callee begin together.
use Rattle.std.proofs.Common.{◌≡◌, ℕ, ◌+◌, List, [], map, Option, Some, None, true, false, ◌&&◌, refl, sym, ap, ◌∙◌, subst, arith}
use Rattle.std.specs.Prelude.{All, Contains, option_and_then, slice_get}
use Rattle.std.specs.Option.{option_map_or}
use Rattle.std.proofs.lemmas.Bool.{or_left, or_right}
use Rattle.std.proofs.lemmas.List.Elements.{All-contains}
use Rattle.c_language.proofs.Options.{none_there, some_same, then_there}
use Rattle.c_language.proofs.Tests.{false_true}
use Rattle.c_language.specs.Names.{any_names, target_names}
use Rattle.c_tree.specs.declared.expr.Expr.{Expr}
use Rattle.c_tree.specs.declared.program.Program.{Program}
use Rattle.c_tree.specs.declared.statement.Target.{Target}
use Rattle.c_language.specs.Code.{Code}
use Rattle.c_meaning.specs.declared.value.Place.{Place}
use Rattle.c_meaning.specs.declared.value.Value.{Value}
use Rattle.c_meaning.specs.Values.{State, eval_all}
use Rattle.c_meaning.specs.Activations.{Routine, Executable, executable, types_in, opening, passed, fresh, passed_to, called}
use Rattle.c_meaning.specs.Steps.{Point}
use Rattle.dep_model.specs.declared.location.Location.{Location}
use Rattle.dep_model.specs.declared.location.Root.{Root}
use Rattle.dep_model.specs.declared.location.Root.TheVariants.{Variable}
use Rattle.dep_model.specs.Doings as doing
use Rattle.dep_model.specs.Doings.{Doing, doings_of}
use Rattle.dep_model.specs.DoingEffects.{is_global, is_taken}
use Rattle.dep_model.specs.ModRef.{is_outside_root, is_outside}
use Rattle.dep_model.specs.declared.vertex.Slot.TheVariants.{Argument}
use Rattle.dep_model.specs.declared.vertex.VertexKind.TheVariants.{ActualIn}
use Rattle.dep_model.proofs.Membership.{IsIn, contains_of_in}
use Rattle.projection.specs.Kept.{Kept, chosen}
use Rattle.projection.specs.Renumbering.{renamed}
use Rattle.run_facts.specs.ReadCells.{all_read, value_read}
use Rattle.run_facts.specs.Touching.{IsUsedBy}
use Rattle.run_facts.specs.NextSteps.{Next, Ends, Passes, Does, Calls, next_of}
use Rattle.run_facts.proofs.Blocks.{Grows}
use Rattle.run_facts.proofs.GlobalVariables.{globals_global}
use Rattle.run_facts.proofs.Members.{all_from}
use Rattle.run_facts.proofs.OldBlocks.{opening_names}
use Rattle.run_facts.proofs.Points.{IsSound, called_passed, sound_run}
use Rattle.run_facts.proofs.Statements.{bodies}
use Rattle.simulation.specs.Renaming.{World, AlikeValue, Names, AlikeAt}
use Rattle.simulation.specs.Settings.{Calling, Setting}
use Rattle.simulation.specs.Agreeing.{Agree}
use Rattle.simulation.specs.Premises.{Entered, Entering}
use Rattle.simulation_locations.specs.KeptVertices.{any_kept, arguments_use}
use Rattle.simulation_locations.proofs.ChainedRules.{calls_member}
use Rattle.simulation_places.specs.Counterparts.{names_of}
use Rattle.simulation_places.proofs.Projecting.{projects_as}
use Rattle.simulation_places.specs.ProjectedCode.{Numbering}
use Rattle.simulation_steps.specs.LikeCalls.{IsLikeRoutine, AreLikeRoutines, none, routine}
use Rattle.simulation_steps.proofs.AlikeOn.{calls_leave_callers}
use Rattle.simulation_steps.proofs.Outcomes.{AlikeList, HoldsAlike, HoldAlike, Staying, StatesStand}
use Rattle.simulation_steps.proofs.StandingObjects.{Comes, came}
use Rattle.simulation_steps.proofs.Values.{values_come_together}
use Rattle.simulation_steps.proofs.TouchedCalls.{call_touching}
use Rattle.simulation_steps.proofs.TouchedReads.{reads_alike}
use Rattle.simulation_steps.proofs.GlobalBlocks.{one_each}
use Rattle.simulation_steps.proofs.Arguments.{chosen_same, chosen_values, ReadBy, read_by, named_in, kept_uses}
use Rattle.simulation_steps.proofs.Closing.{viewed}
use Rattle.simulation_steps.proofs.LikeRoutines.{chosen_member, parameter_stays}
use Rattle.simulation_steps.proofs.NewBlocks.{both_stay}
use Rattle.simulation_steps.proofs.OpeningFrames.{opening_frames}
use Rattle.simulation_steps.proofs.Parameters.{IsPassing, ArePassed, pass_all, alike_inside}
use Rattle.simulation_steps.proofs.Resuming.{viewed_blocks, alike_outside}
use Rattle.simulation_steps.specs.SlicePairs.{SlicePair, twin_of, setting_over}

-- the arguments with which a list calls
abbrev args_in : Next → List Expr
args_in Ends = []
args_in (Passes change r) = []
args_in (Does i act go) = []
args_in (Calls i to g args r) = args

-- the slice's routine of one that is kept
record RoutineThere (k : Kept ℕ) (new : Numbering) (g : ℕ) (r : Routine) (o : Option Routine) : Type 0 where
  value : Routine
  value_is : o ≡ Some value
  likeness : IsLikeRoutine k new g r value

routine_there : (k : Kept ℕ) (new : Numbering) (g : ℕ) (r : Routine) (o u : Option Routine) → AreLikeRoutines k new g o u → o ≡ Some r → RoutineThere k new g r u
routine_there k new g r o u none e = none_there e
routine_there k new g r o u (routine {here = z} {there = t} h) e = record { value = t; value_is = refl; likeness = subst (λ v. IsLikeRoutine k new g v t) (some_same e) h }

is_outside_global : (p : Program) (x : ℕ) (root : Root) → root ≡ Variable x → is_global p x ≡ true → is_outside_root p root ≡ true
is_outside_global p x root e h = ap (is_outside_root p) e ∙ or_left (is_global p x) (is_taken p x) h

module _ (pair : SlicePair) (holds : ℕ → Type 0) where
  abbrev s : Setting
  s = setting_over pair holds

  abbrev n : Names
  n = names_of pair.kept pair.new

  abbrev here : Executable
  here = executable pair.original

  abbrev there : Executable
  there = executable pair.slice

  abbrev Mine : Program → ℕ → Doing → Type 0
  Mine r f d = IsIn (doings_of r f) d

  module _ (w : World) (x y : Point) (i : ℕ) (to : Target) (g : ℕ) (args : List Expr) (r : Code) (agree : Agree s w x y) (next : next_of x.rest ≡ Calls i to g args r) (keeps : s.kept (Calling x.function i g) ≡ true) where
    abbrev f : ℕ
    f = x.function

    member : IsIn (doings_of pair.original f) (doing.Calls i to g args)
    member = calls_member pair.original pair.analysis pair.vertices (twin_of pair) holds x i to g args r agree.reached next

    contained : Contains (doings_of pair.original f) (doing.Calls i to g args)
    contained = contains_of_in (doings_of pair.original f) (doing.Calls i to g args) member

    keeps_statement : pair.kept.statement i ≡ true
    keeps_statement = pair.projected.calls f i g to args contained ∙ keeps

    callee : pair.kept.function g ≡ true
    callee = pair.projected.callees f i g to args contained keeps_statement

    sound : IsSound here (Mine pair.original) x
    sound = sound_run here (Mine pair.original) (bodies pair.original) pair.input x agree.reached

    sound_there : IsSound there (Mine pair.slice) y
    sound_there = sound_run there (Mine pair.slice) (bodies pair.slice) pair.input y agree.reached_there

    -- ---- the arguments that are kept

    abbrev es : List Expr
    es = chosen (pair.kept.argument i) 0 args

    args_there : (t : Target) (h : ℕ) (bs : List Expr) (d : Code) → next_of y.rest ≡ Calls (pair.new.statement i) t h bs d → bs ≡ map (renamed pair.new.variable) es
    args_there t h bs d e =
        let calls = (projects_as pair.kept pair.new x.rest (Calls i to g args r) next).kept keeps_statement in
        ap args_in (sym e ∙ (ap next_of agree.rest_is ∙ calls))

    stand : StatesStand n w (types_in here f) (types_in there y.function) x.state y.state
    stand = record { blocks = agree.blocks; frames = agree.frames; types_are = record { variables = λ z h. pair.acts.types_are z h; members = pair.acts.members_are } }

    staying : All (Staying n) es
    staying = all_from (Staying n) es (λ e j z h. pair.calls.names_kept f i g z to args contained keeps_statement (or_right (pair.kept.result i && target_names to z) (any_names es z) (named_in es e z j h)))

    module _ (uses : (l : Location) → arguments_use pair.original pair.analysis pair.vertices f i g l ≡ true → s.Same w l x.state y.state) (d : State) (called_is : called here f g args x.state ≡ Some d) where
      grows : Grows x.state.origins d.origins
      grows = (called_passed here f x.state sound.placed sound.globals g args d called_is).grows

      holds_one : (z : Place) → ReadBy (types_in here f) x.state es z → HoldsAlike w x.state y.state z
      holds_one z h =
          let at = chosen_member (pair.kept.argument i) 0 args h.one h.member in
          let zero_on : 0 + at.place ≡ at.place = omega arith in
          let vertex : any_kept pair.original pair.analysis pair.vertices _ ≡ true = sym (pair.calls.argument_vertices f i g to args contained at.place) ∙ (ap (pair.kept.argument i) (sym zero_on) ∙ at.passes) in
          let alike = reads_alike pair.original pair.analysis n w x.state y.state agree.blocks d.origins grows (IsUsedBy pair.original pair.analysis f (doing.Calls i to g args) (ActualIn i (Argument at.place))) (λ l u. uses l (kept_uses pair.original pair.analysis pair.vertices f i g at.place l u.used vertex)) (value_read (types_in here f) h.one x.state) (((call_touching pair x i to g args r d agree.reached next called_is).arguments i to g args refl).reads_are at.place h.one at.stands) in
          All-contains (HoldsAlike w x.state y.state) (value_read (types_in here f) h.one x.state) z alike (contains_of_in (value_read (types_in here f) h.one x.state) z h.reads)

      reads : HoldAlike w x.state y.state (all_read (types_in here f) es x.state)
      reads = all_from (HoldsAlike w x.state y.state) (all_read (types_in here f) es x.state) (λ z j. holds_one z (read_by (types_in here f) x.state es z j))

      module _ (vs : List Value) (evaluated : eval_all (types_in here f) args x.state ≡ Some vs) where
        same_test : chosen (pair.kept.argument i) 0 args ≡ chosen (pair.kept.parameter g) 0 args
        same_test = chosen_same (pair.kept.argument i) (pair.kept.parameter g) 0 args (λ j lt. let zero_on : 0 + j ≡ j = omega arith in ap (pair.kept.argument i) zero_on ∙ (pair.calls.arguments f i g to args contained keeps_statement j lt ∙ ap (pair.kept.parameter g) (sym zero_on)))

        chosen_evaluated : eval_all (types_in here f) es x.state ≡ Some (chosen (pair.kept.parameter g) 0 vs)
        chosen_evaluated =
            ap (λ bs. eval_all (types_in here f) bs x.state) same_test ∙ chosen_values (types_in here f) x.state (pair.kept.parameter g) 0 args vs evaluated

        evaluated_there : Comes (AlikeList (AlikeValue w)) (chosen (pair.kept.parameter g) 0 vs) (eval_all (types_in there y.function) (map (renamed pair.new.variable) es) y.state)
        evaluated_there =
            came (AlikeList (AlikeValue w)) (eval_all (types_in here f) es x.state) (eval_all (types_in there y.function) (map (renamed pair.new.variable) es) y.state) (chosen (pair.kept.parameter g) 0 vs) ((values_come_together n w (types_in here f) (types_in there y.function) x.state y.state stand).arguments es staying reads) chosen_evaluated

        -- ---- they are passed

        abbrev m0 : State
        m0 = fresh here x.state

        abbrev n0 : State
        n0 = fresh there y.state

        begins : IsPassing n here there pair.apart pair.acts.types_are (is_outside pair.original) m0 n0 w m0 n0 w
        begins = record {
          begun = both_stay n (is_outside pair.original) w m0 n0 (viewed_blocks n w x.state y.state m0.frame n0.frame None None agree.blocks) (opening_frames pair.original pair.slice pair.analysis pair.kept pair.new pair.vertices pair.calls pair.apart w x.state y.state agree.blocks sound_there.placed.tracked sound_there.globals ((one_each pair.original pair.own pair.input x agree.reached).globals) (globals_global pair.original pair.well));
          tracked = sound.placed.tracked;
          tracked_there = sound_there.placed.tracked;
        }

      -- ---- the callee's routine

      module _ (o : Routine) (routine_is : slice_get here.functions g ≡ Some o) (vs : List Value) (evaluated : eval_all (types_in here f) args x.state ≡ Some vs) (passed_is : passed here o.params vs (fresh here x.state) ≡ Some d) where
        zs : Comes (AlikeList (AlikeValue w)) (chosen (pair.kept.parameter g) 0 vs) (eval_all (types_in there y.function) (map (renamed pair.new.variable) es) y.state)
        zs = evaluated_there vs evaluated

        stay : (j z : ℕ) → slice_get o.params j ≡ Some z → pair.kept.variable z ≡ pair.kept.parameter g (0 + j)
        stay j z e =
            let zero_on : 0 + j ≡ j = omega arith in
            parameter_stays pair.original pair.slice pair.analysis pair.kept pair.new pair.vertices pair.calls g j z callee (ap (λ u. slice_get (option_map_or (λ (v : Routine). v.params) u []) j) routine_is ∙ e) ∙ ap (pair.kept.parameter g) (sym zero_on)

        passed_too : ArePassed n here there pair.apart pair.acts.types_are (is_outside pair.original) (fresh here x.state) (fresh there y.state) w d (passed there (map pair.new.variable (chosen (pair.kept.parameter g) 0 o.params)) zs.value (fresh there y.state))
        passed_too =
            pass_all n here there pair.apart pair.acts.types_are (is_outside pair.original) (fresh here x.state) (fresh there y.state) w (pair.kept.parameter g) 0 o.params vs zs.value stay zs.alike (fresh here x.state) (fresh there y.state) d w (begins vs evaluated) passed_is

        like_there : RoutineThere pair.kept pair.new g o (slice_get there.functions (pair.new.function g))
        like_there = routine_there pair.kept pair.new g o (slice_get here.functions g) (slice_get there.functions (pair.new.function g)) (pair.calls.routines g callee) routine_is

        called_there : (bs : List Expr) → bs ≡ map (renamed pair.new.variable) es → called there y.function (pair.new.function g) bs y.state ≡ Some passed_too.state
        called_there bs is =
            ap (option_and_then (passed_to there y.function bs y.state)) like_there.value_is
            ∙ (ap (λ cs. option_and_then (λ (us : List Value). passed there like_there.value.params us (fresh there y.state)) (eval_all (types_in there y.function) cs y.state)) is
            ∙ (ap (option_and_then (λ (us : List Value). passed there like_there.value.params us (fresh there y.state))) zs.value_is
            ∙ (ap (λ ps. passed there ps zs.value (fresh there y.state)) like_there.likeness.params_are ∙ passed_too.passed_is)))

        abbrev e1 : State
        e1 = passed_too.state

        -- what an activation saw before, it sees so still
        still : (l : Location) (h j : ℕ → Option ℕ) (u v : Option Value) → AlikeAt (is_outside pair.original) w l (viewed h u x.state) (viewed j v y.state) → AlikeAt (is_outside pair.original) passed_too.world l (viewed h u d) (viewed j v e1)
        still l h j u v same =
            passed_too.passing.begun.others h j u v l same

        unnamed : (l : Location) → is_outside pair.original l ≡ false → (z b : ℕ) → l.root ≡ Variable z → (opening here []).frame z ≡ Some b → ⊥
        unnamed l inside z b root e =
            false_true (sym inside ∙ is_outside_global pair.original z l.root root (globals_global pair.original pair.well z (opening_names here z b e)))

        entered_both : (bs : List Expr) → bs ≡ map (renamed pair.new.variable) es → Entered s w x y g bs d
        entered_both bs is = record {
          world = passed_too.world;
          state = e1;
          called_is = called_there bs is;
          grows = passed_too.passing.begun.grows;
          blocks = passed_too.passing.begun.blocks;
          frames = passed_too.passing.begun.frames;
          outside = λ l out same. still l d.frame e1.frame d.returned e1.returned (alike_outside (is_outside pair.original) w l x.state y.state d.frame e1.frame d.returned e1.returned out (λ h. refl) same);
          inside = λ l inside taken. alike_inside n here there pair.apart pair.acts.types_are (is_outside pair.original) (fresh here x.state) (fresh there y.state) w d e1 passed_too.world passed_too.passing l inside (λ e. false_true (sym inside ∙ ap (is_outside pair.original) e)) refl refl (λ z b root e. unnamed l inside z b root e);
          caller = λ l same. still l x.state.frame y.state.frame x.state.returned y.state.returned same;
          waiting = λ above u v below l e frames unmodified same. still l u.frame v.frame u.returned v.returned same;
        }

      called_both : (bs : List Expr) → bs ≡ map (renamed pair.new.variable) es → Entered s w x y g bs d
      called_both bs is =
          let o = then_there (passed_to here f args x.state) (slice_get here.functions g) d called_is in
          let vs = then_there (λ (us : List Value). passed here o.value.params us (fresh here x.state)) (eval_all (types_in here f) args x.state) d o.same in
          entered_both o.value o.there vs.value vs.there vs.same bs is

  pub entering : Entering s
  entering = record {
    both = λ w x y i to g args r to_there bs d e agree next keeps next_there uses is.
        called_both w x y i to g args r agree next keeps uses e is bs (args_there w x y i to g args r agree next keeps to_there (pair.new.function g) bs d next_there);
    alone = λ w x y i to g args r d l agree next keeps is same. calls_leave_callers n (is_outside pair.original) w here x.function g args x.state d y.state l is agree.blocks same;
  }

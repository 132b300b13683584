-- A kept call and its callee end together: the callee's blocks go, and the result is stored in both, or dropped by the slice.
use Rattle.std.proofs.Common.{◌≡◌, ℕ, List, [], ◌∷◌, drop, map, Option, Some, Bool, true, false, ◌&&◌, inl, inr, refl, sym, ap, ◌∙◌, subst}
use Rattle.std.specs.Prelude.{Contains, option_and_then}
use Rattle.std.specs.Option.{option_or}
use Rattle.std.proofs.lemmas.Bool.{false≢true, or_left}
use Rattle.std.proofs.lemmas.List.Elements.{All-contains}
use Rattle.c_language.proofs.Lists.{head_is}
use Rattle.c_language.proofs.Options.{some_same, MadeFrom, then_there}
use Rattle.c_language.proofs.Tests.{false_true}
use Rattle.c_language.specs.Names.{any_names, target_names}
use Rattle.c_tree.specs.declared.statement.Target.{Target}
use Rattle.c_meaning.specs.declared.value.Hop.{Hop}
use Rattle.c_meaning.specs.declared.value.Place.{Place}
use Rattle.c_meaning.specs.declared.value.Value.{Value}
use Rattle.c_meaning.specs.Memory.{held, is_cell, read}
use Rattle.c_meaning.specs.Values.{Types, State}
use Rattle.c_meaning.specs.Acts.{Store, Made, given, stored, after}
use Rattle.c_meaning.specs.Activations.{Executable, executable, variables_at, types_in, result_at, received}
use Rattle.c_meaning.specs.Steps.{Waiting, Point}
use Rattle.dep_model.specs.declared.location.Location.{Location}
use Rattle.dep_model.specs.declared.location.Root.TheVariants.{Variable}
use Rattle.dep_model.specs.declared.vertex.Slot.TheVariants as slot
use Rattle.dep_model.specs.Doings as doing
use Rattle.dep_model.specs.Doings.{Doing, doings_of}
use Rattle.dep_model.specs.DoingEffects.{is_killable, target_kills}
use Rattle.dep_model.specs.ModRef.{is_outside}
use Rattle.dep_model.specs.VertexOrder.{doing_at, out_kills}
use Rattle.dep_model.proofs.Membership.{IsIn, contains_of_in, in_of_contains, in_map}
use Rattle.dep_model.proofs.StructOrder.{well_formed_in_order}
use Rattle.projection.specs.Kept.{chosen}
use Rattle.projection.specs.Renumbering.{renamed_target}
use Rattle.run_facts.specs.CellLocations.{location_of}
use Rattle.run_facts.specs.Counting.{Counts}
use Rattle.run_facts.specs.Effects.{Touch, storing}
use Rattle.run_facts.specs.KeptCells.{IsSameCell, Leads}
use Rattle.run_facts.specs.NextSteps.{Ends, next_of, stores}
use Rattle.run_facts.specs.ReadCells.{target_read}
use Rattle.run_facts.specs.Touching.{IsTouched}
use Rattle.run_facts.specs.TypedStates.{IsTypedState}
use Rattle.run_facts.proofs.Blocks.{Grows, grows_not, AreNamed}
use Rattle.run_facts.proofs.KeptMemories.{stored_live, stored_keeps}
use Rattle.run_facts.proofs.BackStates.{back_typed}
use Rattle.run_facts.proofs.CellPlaces.{same_back, one_place}
use Rattle.run_facts.proofs.KilledNames.{target_named}
use Rattle.run_facts.proofs.Numbers.{at_number}
use Rattle.run_facts.proofs.Points.{Waits, IsSound, sound_run}
use Rattle.run_facts.proofs.Statements.{bodies}
use Rattle.run_facts.proofs.TypedRuns.{typed_run}
use Rattle.simulation.specs.Places.{kept_target}
use Rattle.simulation.specs.Renaming.{World, Stands, AlikeCell, cell_at, Names, BlocksStand, AlikeAt}
use Rattle.simulation.specs.Settings.{ResultOut, Setting, Reached, seen}
use Rattle.simulation.specs.Agreeing.{Agree, CallersAgree}
use Rattle.simulation.specs.Premises.{back, back_there, Stored, Dropped, Returning}
use Rattle.simulation.proofs.Stacks.{Headed, head_of}
use Rattle.simulation_locations.specs.Chained.{slicing_over}
use Rattle.simulation_locations.specs.Wanted.{IsWanted}
use Rattle.simulation_locations.proofs.ChainedRules.{waiting_calls}
use Rattle.simulation_places.specs.Counterparts.{names_of}
use Rattle.simulation_steps.proofs.AlikeOn.{returns_leave_callers}
use Rattle.simulation_steps.proofs.KeptOutlines.{keeps_after, blocks_on}
use Rattle.simulation_steps.proofs.Outcomes.{AlikeMade, HoldAlike, CellsStand, StatesStand}
use Rattle.simulation_steps.proofs.StandingObjects.{Comes, came}
use Rattle.simulation_steps.proofs.Acts.{acts_come_together}
use Rattle.simulation_steps.proofs.TouchedReads.{reads_alike}
use Rattle.simulation_steps.proofs.TouchedReturns.{IsTouching, stored_point, moves_on, store_touching}
use Rattle.simulation_steps.proofs.CallersStay.{cell_stays, unread_stays}
use Rattle.simulation_steps.proofs.GivenStores.{OnlyStores, given_stores}
use Rattle.simulation_steps.proofs.KeptActs.{shown_list}
use Rattle.simulation_steps.proofs.KilledLocations.{IsKilled, in_variable, of_input, of_result, target_killed}
use Rattle.simulation_steps.proofs.KilledTogether.{counted_named, place_in, killed_over}
use Rattle.simulation_steps.proofs.StoredTogether.{quiet_after, after_quiet, stored_together}
use Rattle.simulation_steps.proofs.WholeBlocks.{resumed_whole, run_whole, cells_stand}
use Rattle.simulation_steps.proofs.Closing.{closed_origins, closed_cells, closed_unread}
use Rattle.simulation_steps.proofs.Resuming.{resumed_both}
use Rattle.simulation_steps.specs.SlicePairs.{SlicePair, twin_of, setting_over}

module _ (pair : SlicePair) (holds : ℕ → Type 0) where
  abbrev s : Setting
  s = setting_over pair holds

  abbrev n : Names
  n = names_of pair.kept pair.new

  abbrev here : Executable
  here = executable pair.original

  abbrev there : Executable
  there = executable pair.slice

  abbrev Mine : ℕ → Doing → Type 0
  Mine f d = IsIn (doings_of pair.original f) d

  -- ---- the store of a result in the original

  module _ (x : Point) (b : Waiting) (ws : List Waiting) (reached : Reached s x) (ends : next_of x.rest ≡ Ends) (callers : x.callers ≡ b ∷ ws) where
    abbrev m : State
    m = back s x b

    abbrev types : Types
    types = types_in here b.function

    waits : Waits here Mine x.state.origins x.function b
    waits = waiting_calls pair.original pair.analysis pair.vertices (twin_of pair) holds x [] b ws reached callers

    here_at : doing_at pair.original b.function b.call ≡ Some (doing.Calls b.call b.target x.function waits.args)
    here_at = at_number pair.original pair.numbered b.function (doing.Calls b.call b.target x.function waits.args) waits.calls

    origins_are : m.origins ≡ x.state.origins
    origins_are = closed_origins (variables_at here x.function) x.state

    named : AreNamed m.frame m.origins
    named = subst (AreNamed b.frame) (sym origins_are) waits.named

    sound : IsSound here Mine x
    sound = sound_run here Mine (bodies pair.original) pair.input x reached

    typed : IsTypedState pair.original pair.analysis.points m
    typed =
        back_typed pair.original pair.analysis.points here x.function b x.state (typed_run pair.original pair.analysis.points pair.well pair.analysed.points_are pair.input x reached).state sound.placed waits.named

    grows : Grows m.origins x.state.origins
    grows = subst (Grows m.origins) origins_are (grows_not m.origins)

    kills_it : (l : Location) → s.kills (ResultOut b.function b.call x.function) l ≡ true → target_kills pair.original pair.analysis.points b.target l ≡ true
    kills_it l h = subst (λ (o : Option Doing). out_kills pair.original pair.analysis.points b.function o slot.Result l ≡ true) here_at h

    module _ (st : stores b.target ≡ true) (v : Made) (is : received types b.target x.state.returned m ≡ Some v) where
      result : MadeFrom x.state.returned (λ (z : Value). given types b.target z m) (Some v)
      result = then_there (λ (z : Value). given types b.target z m) x.state.returned v is

      simple : OnlyStores v
      simple = given_stores types m b.target result.value v result.same

      touching : IsTouching pair x b ws v
      touching = store_touching pair x b ws v reached ends callers st is

      -- nothing is stored in a cell at a location that isn't defined
      apart : (l : Location) → s.defines (ResultOut b.function b.call x.function) l ≡ false → (q : Place) → is_cell m.memory q ≡ true → location_of m.origins q ≡ Some l → (u : Store) → IsIn v.stores u → IsSameCell m.memory u.place q → ⊥
      apart l undefined_ q live at u j same =
          let t = All-contains (IsTouched pair.original pair.analysis m x.state.origins _) (map storing v.stores) (storing u) touching.stores_are (contains_of_in (map storing v.stores) (storing u) (in_map storing v.stores u j)) in
          let place : q ≡ u.place = one_place pair.original (well_formed_in_order pair.original pair.well) m.memory q u.place typed.structs_are live (same_back m.memory u.place q same) in
          let location : t.location ≡ l = some_same (sym t.location_is ∙ (ap (λ os. location_of os u.place) (sym origins_are) ∙ (ap (location_of m.origins) (sym place) ∙ at))) in
          false≢true (sym undefined_ ∙ (ap (s.defines (ResultOut b.function b.call x.function)) (sym location) ∙ t.among.defined))

      after_is : after b.call v m ≡ quiet_after v m
      after_is = after_quiet b.call v m simple.none_begun simple.none_freed

      unread_is : drop v.taken m.unread ≡ m.unread
      unread_is = ap (λ i. drop i m.unread) simple.none_taken

      -- what the store doesn't define stays
      store_left : (w : World) (t : State) (l : Location) → s.defines (ResultOut b.function b.call x.function) l ≡ false → AlikeAt (is_outside pair.original) w l m t → AlikeAt (is_outside pair.original) w l (after b.call v m) t
      store_left w t l undefined_ same =
          subst (λ (z : State). AlikeAt (is_outside pair.original) w l z t) (sym after_is)
          (record {
            cells = λ d e path stands counts live at. subst (λ z. AlikeCell w z (read t.memory (cell_at e path))) (sym (kept_there d path live at)) (same.cells d e path stands counts (stored_live v.stores m.memory (cell_at d path) live) at);
            input = λ e. unread_is ∙ same.input e;
            result = λ g e. subst (λ z. AlikeCell w z t.returned) (sym (ap (λ (o : Option Value). option_or o m.returned) simple.none_returned)) (same.result g e);
          })
        where
          kept_there : (d : ℕ) (path : List Hop) → is_cell (stored v.stores m.memory) (cell_at d path) ≡ true → location_of m.origins (cell_at d path) ≡ Some l → read (stored v.stores m.memory) (cell_at d path) ≡ read m.memory (cell_at d path)
          kept_there d path live at =
              ap (option_and_then held) (stored_keeps v.stores m.memory (cell_at d path) (apart l undefined_ (cell_at d path) (stored_live v.stores m.memory (cell_at d path) live) at))

      -- ---- callers below

      abbrev Next : Point
      Next = stored_point pair x b ws v

      leads : Leads here x Next
      leads = inr (moves_on pair x b ws v ends callers st is)

      -- a caller below sees what it saw before the store, where its callee doesn't modify that
      store_waits : (w : World) (t0 t : State) → BlocksStand n w x.state t0 → CallersAgree s w w b.function ws m t (after b.call v m) t
      store_waits w t0 t blocks above u d below l e frames unmodified same = record {
        cells = λ i j path stands counts live at. subst (λ z. AlikeCell w z (read t.memory (cell_at j path))) (sym (same_read i j path stands counts live at)) (same.cells i j path stands (counts_before i counts) (live_before i path live) (ap (λ os. location_of os (cell_at i path)) (sym origins_after_) ∙ at));
        input = λ i. unread_stays pair.original pair.analysis pair.well pair.analysed pair.input n w x Next t0 (b ∷ above) above u below l reached leads (callers ∙ ap (λ vs. b ∷ vs) e) e blocks unmodified i ∙ (sym (closed_unread (variables_at here x.function) x.state) ∙ same.input i);
        result = same.result;
      }
        where
          origins_after_ : (after b.call v m).origins ≡ m.origins
          origins_after_ = ap (λ (z : State). z.origins) after_is

          counts_before : (i : ℕ) → Counts (is_outside pair.original) l (seen u (after b.call v m)) i → Counts (is_outside pair.original) l (seen u m) i
          counts_before i (inl out) = inl out
          counts_before i (inr h) = inr h

          live_before : (i : ℕ) (path : List Hop) → is_cell (after b.call v m).memory (cell_at i path) ≡ true → is_cell m.memory (cell_at i path) ≡ true
          live_before i path live = stored_live v.stores m.memory (cell_at i path) (ap (λ (z : State). is_cell z.memory (cell_at i path)) (sym after_is) ∙ live)

          same_read : (i j : ℕ) (path : List Hop) → Stands w i j → Counts (is_outside pair.original) l (seen u (after b.call v m)) i → is_cell (after b.call v m).memory (cell_at i path) ≡ true → location_of (after b.call v m).origins (cell_at i path) ≡ Some l → read (after b.call v m).memory (cell_at i path) ≡ read m.memory (cell_at i path)
          same_read i j path stands counts live at =
              cell_stays pair.original pair.analysis pair.well pair.analysed pair.input n w x Next t0 (b ∷ above) above u below l reached leads (callers ∙ ap (λ vs. b ∷ vs) e) e blocks unmodified i j path stands counts live at
              ∙ sym (ap (option_and_then held) (closed_cells (variables_at here x.function) x.state (cell_at i path) (live_before i path live)))

      -- ---- and in the slice

      module _ (w : World) (y : Point) (d : Waiting) (us : List Waiting) (agree : Agree s w x y) (callers_there : y.callers ≡ d ∷ us) where
        abbrev t : State
        t = back_there s y d

        abbrev types_there : Types
        types_there = types_in there d.function

        headed : Headed s w x.function b ws y.callers x.state y.state
        headed = head_of s w x.function x.callers b ws y.callers x.state y.state callers agree.stack

        first_is : headed.first ≡ d
        first_is = head_is (sym headed.callers_are ∙ callers_there)

        blocks_back : BlocksStand n w m t
        blocks_back = (resumed_both pair holds w x y b d ws us agree ends callers callers_there).blocks

        pub dropped_there : Dropped s w x y b d ws v
        dropped_there = record {
          blocks = blocks_on n w m (after b.call v m) t (keeps_after b.call v m) blocks_back;
          same = λ l undefined_ same. store_left w t l undefined_ same;
          waiting = store_waits w y.state t agree.blocks;
        }

        module _ (keeps : s.kept (ResultOut b.function b.call x.function) ≡ true) (result_same : s.Same w (s.result x.function) x.state y.state) (uses : (l : Location) → s.uses (ResultOut b.function b.call x.function) l ≡ true → s.Same w l m t) where
          member : Contains (doings_of pair.original b.function) (doing.Calls b.call b.target x.function waits.args)
          member = contains_of_in (doings_of pair.original b.function) (doing.Calls b.call b.target x.function waits.args) waits.calls

          keeps_statement : pair.kept.statement b.call ≡ true
          keeps_statement = pair.projected.calls b.function b.call x.function b.target waits.args member ∙ headed.waits.kept_call

          keeps_result : pair.kept.result b.call ≡ true
          keeps_result = pair.projected.results b.function b.call x.function b.target waits.args member ∙ keeps

          target_is : d.target ≡ renamed_target pair.new.variable b.target
          target_is =
              ap (λ (z : Waiting). z.target) (sym first_is) ∙ (headed.waits.target_is ∙ ap (λ h. kept_target h (renamed_target pair.new.variable b.target)) keeps)

          stand : StatesStand n w types types_there m t
          stand = record {
            blocks = blocks_back;
            frames = subst (λ (z : Waiting). s.Frames w b.frame z.frame) first_is headed.waits.frames;
            types_are = record { variables = λ z h. pair.acts.types_are z h; members = pair.acts.members_are };
          }

          cells : CellsStand w m t
          cells =
              cells_stand n w m t (resumed_whole here x.function b.frame b.returned x.state (run_whole here pair.input x reached)) (resumed_whole there y.function d.frame d.returned y.state (run_whole there pair.input y agree.reached_there)) blocks_back

          reads : HoldAlike w m t (target_read types b.target m)
          reads =
              reads_alike pair.original pair.analysis n w m t blocks_back x.state.origins grows _ (λ l u. uses l u.used) (target_read types b.target m) touching.reads_are

          outcome : Comes (AlikeMade w) v (received types_there (renamed_target pair.new.variable b.target) y.state.returned t)
          outcome =
              came (AlikeMade w) (received types b.target x.state.returned m) (received types_there (renamed_target pair.new.variable b.target) y.state.returned t) v ((acts_come_together n w types types_there m t stand cells).stores b.target x.state.returned y.state.returned (λ z h. pair.calls.names_kept b.function b.call x.function z b.target waits.args member keeps_statement (or_left (pair.kept.result b.call && target_names b.target z) (any_names (chosen (pair.kept.argument b.call) 0 waits.args) z) (ap (λ g. g && target_names b.target z) keeps_result ∙ h))) (result_same.result x.function refl) reads) is

          abbrev kills_result : Location → Bool
          kills_result = s.kills (ResultOut b.function b.call x.function)

          -- each cell that counts at a location of a variable that is killed is stored into
          into : (l : Location) (z : ℕ) → kills_result l ≡ true → l.root ≡ Variable z → is_killable pair.original z ≡ true → (i : ℕ) (path : List Hop) → Counts (is_outside pair.original) l m i → is_cell m.memory (cell_at i path) ≡ true → location_of m.origins (cell_at i path) ≡ Some l → IsIn (map (λ (k : Store). k.place) v.stores) (cell_at i path)
          into l z kl root killable i path counts live at =
              let block = target_named pair.original pair.analysis.points m typed (result_at here b.function) b.target result.value v result.same l z root (kills_it l kl) in
              let named_is = counted_named pair.original pair.own pair.input x reached b.frame waits.named l z block.0 root killable block.1 i path counts (ap (λ os. location_of os (cell_at i path)) (sym origins_are) ∙ at) in
              let stored_into = (touching.overwrites.cells_are l z root kl (cell_at i path)).0 (record { named = named_is; is_live = live; location_is = at }) in
              place_in v.stores (cell_at i path) (in_of_contains (map (λ (k : Touch). k.cell) (map storing v.stores)) (cell_at i path) stored_into.0)

          -- what it kills is alike after; no target kills the input, or a result
          over : (l : Location) → kills_result l ≡ true → AlikeAt (is_outside pair.original) w l (quiet_after v m) (quiet_after outcome.value t)
          over l kl = by_kind (target_killed pair.original pair.analysis.points b.function b.target l (kills_it l kl))
            where
              by_kind : IsKilled pair.original b.function l → AlikeAt (is_outside pair.original) w l (quiet_after v m) (quiet_after outcome.value t)
              by_kind (in_variable z root killable) =
                  killed_over n (is_outside pair.original) w m t blocks_back cells v outcome.value outcome.alike l z root (into l z kl root killable)
              by_kind (of_input e) = false_true (touching.overwrites.input_is (subst (λ k. kills_result k ≡ true) e kl))
              by_kind (of_result e) = false_true (touching.overwrites.result_is (subst (λ k. kills_result k ≡ true) e kl))

          pub stored_both : Stored s w x y b d ws v
          stored_both = record {
            values = outcome.value;
            received_is = ap (λ (z : Target). received types_there z y.state.returned t) target_is ∙ outcome.value_is;
            shown = shown_list w v.values outcome.value.values outcome.alike.values;
            together = stored_together (slicing_over pair.original pair.analysis pair.vertices (twin_of pair)) (λ l o. IsWanted pair.original pair.analysis pair.vertices l o) holds w b.function ws (s.kills (ResultOut b.function b.call x.function)) m t b.call d.call v outcome.value blocks_back stand.frames cells outcome.alike simple.none_begun simple.none_freed over;
          }

  pub returning : Returning s
  returning = record {
    plain = λ w x y b d ws us agree ends callers callers_there. resumed_both pair holds w x y b d ws us agree ends callers callers_there;
    stored = λ w x y b d ws us v agree ends callers callers_there st keeps result_same uses is.
        stored_both x b ws agree.reached ends callers st v is w y d us agree callers_there keeps result_same uses;
    dropped = λ w x y b d ws us v agree ends callers callers_there st keeps is.
        dropped_there x b ws agree.reached ends callers st v is w y d us agree callers_there;
    left = λ w x y b ws l reached reached_there ends callers blocks frames same. returns_leave_callers n (is_outside pair.original) w here x.function b x.state y.state l blocks same;
    left_stored = λ w x y b ws v l reached reached_there ends callers blocks frames st is undefined_ same.
        store_left x b ws reached ends callers st v is w y.state l undefined_ same;
  }

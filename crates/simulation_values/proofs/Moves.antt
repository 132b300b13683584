-- A variable begins, and variables are gone, in a program and in its slice, or in the program alone.
use Rattle.std.proofs.Common.{◌≡◌, ℕ, ◌==◌, List, [], ◌∷◌, ◌++◌, append-nil, length, Option, Some, None, Bool, true, false, if◌then◌else◌, inl, inr, refl, sym, ap, ◌∙◌, subst}
use Rattle.std.proofs.lemmas.Bool.{false≢true}
use Rattle.c_language.proofs.Options.{none_there}
use Rattle.c_language.specs.Code.{Code, End, Opens, Plain, Fork, Loop, Leaves, Call, either}
use Rattle.c_meaning.specs.Activations.{executable, types_in}
use Rattle.c_meaning.specs.Steps.{Point}
use Rattle.c_meaning.specs.Values.{Types, State, variable_opened, variable_closed, all_closed}
use Rattle.c_meaning.proofs.Origins.{blocks_have_origins}
use Rattle.dep_model.specs.declared.location.Location.{Location}
use Rattle.dep_model.specs.ModRef.{is_outside}
use Rattle.simulation.specs.Agreeing.{Together}
use Rattle.run_facts.specs.Counting.{Counts}
use Rattle.run_facts.specs.NextSteps.{Next, Ends, Passes, Does, Calls, next_of}
use Rattle.simulation.specs.Premises.{Moving}
use Rattle.simulation.specs.Renaming.{World, BlocksStand, FramesStand, AlikeAt}
use Rattle.simulation.specs.Settings.{Setting, Reached, ReachedThere}
use Rattle.simulation_places.specs.Counterparts.{names_of}
use Rattle.simulation_places.specs.ProjectedCode.{renamed_all, project_code, keeps_move}
use Rattle.simulation_places.proofs.Projecting.{leaves_kept}
use Rattle.simulation_steps.proofs.AlikeOn.{moves_leave_alike}
use Rattle.simulation_steps.proofs.BeginTogether.{variables_begin_together}
use Rattle.simulation_steps.proofs.Closing.{viewed, blocks_closed, alike_closed}
use Rattle.simulation_steps.proofs.LikeRoutines.{are_among}
use Rattle.simulation_steps.specs.SlicePairs.{SlicePair, setting_over}
use Rattle.simulation_values.proofs.GoneFrames.{frames_alone, frames_close, frames_close_alone}

abbrev Change : Type 0
Change = Types → State → State

-- what a move does, and where it goes on
abbrev change_of : Next → Change
change_of Ends = λ types s. s
change_of (Passes change r) = change
change_of (Does i a go) = λ types s. s
change_of (Calls i to g args r) = λ types s. s

-- what is gone can't be named, and was not named by others
closed_frame : (xs : List ℕ) (s : State) (y b : ℕ) → (all_closed xs s).frame y ≡ Some b → s.frame y ≡ Some b
closed_frame [] s y b e = e
closed_frame (x ∷ xs) s y b e = by_name (x == y) (closed_frame xs (variable_closed x s) y b e)
  where
    by_name : (same : Bool) → (if same then None else s.frame y) ≡ Some b → s.frame y ≡ Some b
    by_name true e = none_there e
    by_name false e = e

closed_returned : (xs : List ℕ) (s : State) → (all_closed xs s).returned ≡ s.returned
closed_returned [] s = refl
closed_returned (x ∷ xs) s = closed_returned xs (variable_closed x s)

module _ (pair : SlicePair) (holds : ℕ → Type 0) where
  abbrev s : Setting
  s = setting_over pair holds

  abbrev outside : Location → Bool
  outside = is_outside pair.original

  -- what both do, where the original does this and the slice that
  abbrev GoTogether : World → Point → Point → Change → Change → Type 0
  GoTogether w x y change there =
      Together s w x.function x.callers (λ l. false) x.state y.state (change (types_in (executable pair.original) x.function) x.state) (there (types_in (executable pair.slice) y.function) y.state)

  -- blocks stand for blocks, and those of variables for those of the same variables
  record Stand (w : World) (x y : Point) : Type 0 where
    blocks : BlocksStand (names_of pair.kept pair.new) w x.state y.state
    frames : FramesStand (names_of pair.kept pair.new) w x.state.frame y.state.frame

  -- ---- a variable begins

  begin : (w : World) (x y : Point) (z : ℕ) → Reached s x → ReachedThere s y → Stand w x y → pair.kept.variable z ≡ true → GoTogether w x y (λ types m. variable_opened types z m) (λ types m. variable_opened types (pair.new.variable z) m)
  begin w x y z reached reached_there h stays =
      let types = types_in (executable pair.original) x.function in
      let there = types_in (executable pair.slice) y.function in
      let begun = variables_begin_together (names_of pair.kept pair.new) outside w types there z x.state y.state (record {
        tracked = blocks_have_origins pair.original pair.input x reached;
        tracked_there = blocks_have_origins pair.slice pair.input y reached_there;
        blocks = h.blocks;
        frames = h.frames;
        stays = stays;
        apart = pair.apart;
        type_is = pair.acts.types_are z stays;
      }) in
      record {
        world = w ++ length x.state.memory.blocks ∷ [];
        grows = begun.grows;
        blocks = begun.blocks;
        frames = begun.frames;
        same = λ l e. elim e [ inl killed ↦ absurd (false≢true killed) | inr same ↦ begun.same l same ];
        waiting = λ above b d below l e frames other same. begun.others b.frame d.frame b.returned d.returned l same;
      }

  -- ---- variables are gone

  fewer_named : (w : World) (l : Location) (m n : State) (here there : ℕ → Option ℕ) → ((y b : ℕ) → here y ≡ Some b → m.frame y ≡ Some b) → AlikeAt outside w l m n → AlikeAt outside w l (viewed here m.returned m) (viewed there n.returned n)
  fewer_named w l m n here there fewer h = record {
    cells = λ b d path e counts live at. h.cells b d path e (before_ b counts) live at;
    input = h.input;
    result = h.result;
  }
    where
      before_ : (b : ℕ) → Counts outside l (viewed here m.returned m) b → Counts outside l m b
      before_ b (inl out) = inl out
      before_ b (inr n) = inr (n.0, n.1, fewer n.0 b n.2)

  gone_alike : (w : World) (xs : List ℕ) (m n : State) (l : Location) → FramesStand (names_of pair.kept pair.new) w m.frame n.frame → AlikeAt outside w l m n → AlikeAt outside w l (all_closed xs m) (all_closed (renamed_all pair.kept pair.new xs) n)
  gone_alike w xs m n l frames h =
      let ys = renamed_all pair.kept pair.new xs in
      let here = all_closed xs m in
      let there = all_closed ys n in
      let g = alike_closed (names_of pair.kept pair.new) w m n xs ys (are_among pair.kept pair.new xs) frames outside here.frame there.frame m.returned n.returned l (fewer_named w l m n here.frame there.frame (closed_frame xs m) h) in
      subst (λ r. AlikeAt outside w l (viewed here.frame r here) there) (sym (closed_returned xs m)) (subst (λ r. AlikeAt outside w l (viewed here.frame m.returned here) (viewed there.frame r there)) (sym (closed_returned ys n)) g)

  go : (w : World) (x y : Point) (xs : List ℕ) → Stand w x y → GoTogether w x y (λ types m. all_closed xs m) (λ types m. all_closed (renamed_all pair.kept pair.new xs) m)
  go w x y xs h =
      let m = x.state in
      let n = y.state in
      let ys = renamed_all pair.kept pair.new xs in
      record {
        world = w;
        grows = record { more = []; world_is = sym (append-nil w) };
        blocks = blocks_closed (names_of pair.kept pair.new) w m n xs ys (are_among pair.kept pair.new xs) h.frames h.blocks;
        frames = frames_close pair.kept pair.new pair.apart w xs m n h.frames;
        same = λ l e. elim e [ inl killed ↦ absurd (false≢true killed) | inr same ↦ gone_alike w xs m n l h.frames same ];
        waiting = λ above b d below l e frames other same. alike_closed (names_of pair.kept pair.new) w m n xs ys (are_among pair.kept pair.new xs) h.frames outside b.frame d.frame b.returned d.returned l same;
      }

  -- ---- a move, by what comes next

  by_code : (w : World) (x y : Point) (e : Code) (change there : Change) (r d : Code) → Reached s x → ReachedThere s y → Stand w x y → next_of e ≡ Passes change r → keeps_move pair.kept e ≡ true → next_of (project_code pair.kept pair.new e) ≡ Passes there d → GoTogether w x y change there
  by_code w x y End change there r d reached reached_there h is moves is_there = absurd (false≢true moves)
  by_code w x y (Opens z f) change there r d reached reached_there h is moves is_there =
      subst (λ (g : Change). GoTogether w x y g there) (ap change_of is)
      (subst (λ (g : Change). GoTogether w x y (λ types m. variable_opened types z m) g) (ap change_of (sym (ap (λ b. next_of (either b (Opens (pair.new.variable z) (project_code pair.kept pair.new f)) (project_code pair.kept pair.new f))) moves) ∙ is_there)) (begin w x y z reached reached_there h moves))
  by_code w x y (Plain i act f) change there r d reached reached_there h is moves is_there = absurd (false≢true moves)
  by_code w x y (Fork i e f g) change there r d reached reached_there h is moves is_there = absurd (false≢true moves)
  by_code w x y (Loop i e f g) change there r d reached reached_there h is moves is_there = absurd (false≢true moves)
  by_code w x y (Leaves xs f) change there r d reached reached_there h is moves is_there =
      subst (λ (g : Change). GoTogether w x y g there) (ap change_of is)
      (subst (λ (g : Change). GoTogether w x y (λ types m. all_closed xs m) g) (ap change_of (sym (ap next_of (leaves_kept pair.kept pair.new xs (project_code pair.kept pair.new f) moves)) ∙ is_there)) (go w x y xs h))
  by_code w x y (Call i to g args f) change there r d reached reached_there h is moves is_there = absurd (false≢true moves)

  -- ---- a move of the original alone

  abbrev AloneFrames : World → Point → Point → Change → Type 0
  AloneFrames w x y change = FramesStand (names_of pair.kept pair.new) w (change (types_in (executable pair.original) x.function) x.state).frame y.state.frame

  abbrev AloneAlike : World → Point → Point → Location → Change → Type 0
  AloneAlike w x y l change = AlikeAt outside w l (change (types_in (executable pair.original) x.function) x.state) y.state

  frames_by_code : (w : World) (x y : Point) (e : Code) (change : Change) (r : Code) → FramesStand (names_of pair.kept pair.new) w x.state.frame y.state.frame → next_of e ≡ Passes change r → keeps_move pair.kept e ≡ false → AloneFrames w x y change
  frames_by_code w x y End change r h is stays = cc
  frames_by_code w x y (Opens z f) change r h is stays =
      subst (λ (g : Change). AloneFrames w x y g) (ap change_of is) (frames_alone (names_of pair.kept pair.new) w z (Some (length x.state.memory.blocks)) x.state.frame y.state.frame stays h)
  frames_by_code w x y (Plain i act f) change r h is stays = cc
  frames_by_code w x y (Fork i e f g) change r h is stays = cc
  frames_by_code w x y (Loop i e f g) change r h is stays = cc
  frames_by_code w x y (Leaves xs f) change r h is stays = subst (λ (g : Change). AloneFrames w x y g) (ap change_of is) (frames_close_alone pair.kept pair.new pair.apart w xs x.state y.state stays h)
  frames_by_code w x y (Call i to g args f) change r h is stays = cc

  alike_by_code : (w : World) (x y : Point) (l : Location) (e : Code) (change : Change) (r : Code) → BlocksStand (names_of pair.kept pair.new) w x.state y.state → next_of e ≡ Passes change r → AlikeAt outside w l x.state y.state → AloneAlike w x y l change
  alike_by_code w x y l End change r h is same = cc
  alike_by_code w x y l (Opens z f) change r h is same =
      subst (λ (g : Change). AloneAlike w x y l g) (ap change_of is) ((moves_leave_alike (names_of pair.kept pair.new) outside w (types_in (executable pair.original) x.function) x.state y.state l h same).0 z)
  alike_by_code w x y l (Plain i act f) change r h is same = cc
  alike_by_code w x y l (Fork i e f g) change r h is same = cc
  alike_by_code w x y l (Loop i e f g) change r h is same = cc
  alike_by_code w x y l (Leaves xs f) change r h is same =
      subst (λ (g : Change). AloneAlike w x y l g) (ap change_of is) ((moves_leave_alike (names_of pair.kept pair.new) outside w (types_in (executable pair.original) x.function) x.state y.state l h same).1 xs)
  alike_by_code w x y l (Call i to g args f) change r h is same = cc

  pub moving : Moving s
  moving = record {
    both = λ w x y change there r d h is moves is_there. by_code w x y x.rest change there r d h.reached h.reached_there (record { blocks = h.blocks; frames = h.frames }) is moves (sym (ap next_of h.rest_is) ∙ is_there);
    alone_frames = λ w x y change r h is stays. frames_by_code w x y x.rest change r h.frames is stays;
    alone = λ w x y change r l h is stays wanted same. alike_by_code w x y l x.rest change r h.blocks is same;
  }

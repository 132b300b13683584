-- What is killed at a location of a variable is alike after: the blocks that count there are one, which the activation names by the
-- variable, and each of its cells at the location is overwritten in both programs.
use Rattle.std.proofs.Common.{◌≡◌, ◌⊎◌, ℕ, List, map, Option, Some, None, Bool, true, false, not, ◌||◌, inl, inr, refl, sym, ap, ◌∙◌, subst, [], ◌∷◌}
use Rattle.std.specs.Prelude.{option_map, slice_get}
use Rattle.std.proofs.lemmas.Bool.{false≢true}
use Rattle.c_language.proofs.Options.{none_there, some_same}
use Rattle.c_tree.specs.declared.program.Program.{Program}
use Rattle.c_meaning.specs.declared.value.Hop.{Hop}
use Rattle.c_meaning.specs.declared.value.Place.{Place}
use Rattle.c_meaning.specs.Memory.{is_cell}
use Rattle.c_meaning.specs.Values.{Origin, OfVariable, OfStatement, State}
use Rattle.c_meaning.specs.Acts.{Store, Made}
use Rattle.c_meaning.specs.Activations.{executable}
use Rattle.c_meaning.specs.Steps.{Reaches, Point, machine, beginning}
use Rattle.dep_model.specs.declared.location.Location.{Location}
use Rattle.dep_model.specs.declared.location.Root.{Root}
use Rattle.dep_model.specs.declared.location.Root.TheVariants.{Input, Variable, Result}
use Rattle.dep_model.specs.DoingEffects.{the_input, result_of, is_global, is_taken, is_killable}
use Rattle.dep_model.specs.ModRef.{is_outside, is_outside_root}
use Rattle.dep_model.proofs.Membership.{IsIn}
use Rattle.run_facts.specs.CellLocations.{location_in, location_of}
use Rattle.run_facts.specs.Counting.{Counts}
use Rattle.run_facts.specs.Effects.{Touch, storing}
use Rattle.run_facts.proofs.Blocks.{AreNamed}
use Rattle.run_facts.proofs.KeptMemories.{stored_live}
use Rattle.run_facts.proofs.KilledNames.{same_variable}
use Rattle.simulation.specs.Renaming.{World, cell_at, Names, BlocksStand, AlikeAt}
use Rattle.simulation_steps.specs.OwnGlobals.{HasOwnGlobals}
use Rattle.simulation_steps.proofs.GlobalBlocks.{one_each}
use Rattle.simulation_steps.proofs.Outcomes.{AlikeMade, CellsStand}
use Rattle.simulation_steps.proofs.OverwrittenTogether.{over_one}
use Rattle.simulation_steps.proofs.StoredTogether.{quiet_after}

-- the block of a cell at a location of a variable was made by the variable
pub made_by : (os : List Origin) (z : ℕ) (l : Location) (q : Place) → location_of os q ≡ Some l → l.root ≡ Variable z → slice_get os q.block ≡ Some (OfVariable z)
made_by os z l q at root = by_origin (slice_get os q.block) refl at
  where
    rooted : (o : Origin) → location_in o q.path ≡ l → (location_in o q.path).root ≡ Variable z
    rooted o e = ap (λ (k : Location). k.root) e ∙ root

    by_site : (i : ℕ) (path : List Hop) {A : Type 0} → (location_in (OfStatement i) path).root ≡ Variable z → A
    by_site i [] e = cc
    by_site i (h ∷ path) e = cc

    by_origin : (o : Option Origin) → slice_get os q.block ≡ o → option_map (λ (k : Origin). location_in k q.path) o ≡ Some l → slice_get os q.block ≡ Some (OfVariable z)
    by_origin None is e = none_there e
    by_origin (Some (OfVariable y)) is e = is ∙ ap (λ k. Some (OfVariable k)) (same_variable y z (Variable y) refl (rooted (OfVariable y) (some_same e)))
    by_origin (Some (OfStatement i)) is e = by_site i q.path (rooted (OfStatement i) (some_same e))

-- who kills a location that is seen outside kills that of a global
is_global_then : (g t : Bool) → (g || not t) ≡ true → (g || t) ≡ true → g ≡ true
is_global_then true t h k = refl
is_global_then false true h k = absurd (false≢true h)
is_global_then false false h k = absurd (false≢true k)

-- in a run, the block that counts at a location of a variable that is killed is the one that the activation names
module _ (p : Program) (own : HasOwnGlobals p) (input : List ℕ) (x : Point) (reached : Reaches (machine (executable p)) (beginning (executable p) input) x) (frame : ℕ → Option ℕ) (named : AreNamed frame x.state.origins) (l : Location) (z b : ℕ) (root : l.root ≡ Variable z) (killable : is_killable p z ≡ true) (block_is : frame z ≡ Some b) where
  of_global : (i : ℕ) → is_outside p l ≡ true → slice_get x.state.origins i ≡ Some (OfVariable z) → frame z ≡ Some i
  of_global i out made =
      let global = is_global_then (is_global p z) (is_taken p z) killable (ap (is_outside_root p) (sym root) ∙ out) in
      let each = (one_each p own input x reached).globals in
      let first = each b z (named z b block_is) global in
      let second = each i z made global in
      block_is ∙ (sym first ∙ second)

  pub counted_named : (i : ℕ) (path : List Hop) → (is_outside p l ≡ true) ⊎ ((y : ℕ) × (l.root ≡ Variable y) × (frame y ≡ Some i)) → location_of x.state.origins (cell_at i path) ≡ Some l → frame z ≡ Some i
  counted_named i path (inl out) at = of_global i out (made_by x.state.origins z l (cell_at i path) at root)
  counted_named i path (inr k) at = subst (λ y. frame y ≡ Some i) (same_variable k.0 z l.root k.1 root) k.2

input_apart : (l : Location) (z : ℕ) {A : Type 0} → l.root ≡ Variable z → l ≡ the_input → A
input_apart l z root e = let roots : ◌≡◌ {A = Root} (Variable z) Input = sym root ∙ ap (λ (k : Location). k.root) e in cc

result_apart : (l : Location) (z f : ℕ) {A : Type 0} → l.root ≡ Variable z → l ≡ result_of f → A
result_apart l z f root e = let roots : ◌≡◌ {A = Root} (Variable z) (Result f) = sym root ∙ ap (λ (k : Location). k.root) e in cc

-- a place of a list of stores is that of one of them
pub place_in : (us : List Store) (q : Place) → IsIn (map (λ (k : Touch). k.cell) (map storing us)) q → IsIn (map (λ (k : Store). k.place) us) q
place_in [] q h = h
place_in (u ∷ us) q (inl e) = inl e
place_in (u ∷ us) q (inr h) = inr (place_in us q h)

-- where each live cell that counts is stored into, cells are alike after
module _ (names : Names) (outside : Location → Bool) (w : World) (s t : State) (blocks : BlocksStand names w s t) (cells : CellsStand w s t) (v u : Made) (made_ : AlikeMade w v u) where
  pub killed_over : (l : Location) (z : ℕ) → l.root ≡ Variable z → ((i : ℕ) (path : List Hop) → Counts outside l s i → is_cell s.memory (cell_at i path) ≡ true → location_of s.origins (cell_at i path) ≡ Some l → IsIn (map (λ (k : Store). k.place) v.stores) (cell_at i path)) → AlikeAt outside w l (quiet_after v s) (quiet_after u t)
  killed_over l z root into = record {
    cells = λ b c path e counts live at.
        let before = stored_live v.stores s.memory (cell_at b path) live in
        over_one names outside w s t blocks cells v u made_ v.stores u.stores s t b c path made_.stores blocks e before (cells (cell_at b path) c e before) (into b path counts before at);
    input = λ e. input_apart l z root e;
    result = λ f e. result_apart l z f root e;
  }

-- Where the locations that may be used are alike, the cells that are read hold alike values.
use Rattle.std.proofs.Common.{◌≡◌, ℕ, List, map, Option, Some, None, Bool, true, false, refl, sym, ap, ◌∙◌, subst}
use Rattle.std.specs.Prelude.{All, option_map, option_and_then, is_some, slice_get}
use Rattle.std.proofs.lemmas.List.Elements.{All-contains}
use Rattle.c_tree.specs.declared.program.Program.{Program}
use Rattle.c_meaning.specs.declared.value.Place.{Place}
use Rattle.c_meaning.specs.declared.value.Value.{Value}
use Rattle.c_meaning.specs.Memory.{held, cell, is_cell, read}
use Rattle.c_meaning.specs.Values.{Origin, State}
use Rattle.dep_model.specs.declared.location.Location.{Location}
use Rattle.dep_model.specs.SystemGraph.{Analysis}
use Rattle.dep_model.specs.ModRef.{is_outside}
use Rattle.dep_model.proofs.Membership.{contains_of_in, in_map}
use Rattle.run_facts.specs.CellLocations.{location_in, location_of}
use Rattle.run_facts.specs.Counting.{Counts}
use Rattle.run_facts.specs.Effects.{holding}
use Rattle.run_facts.specs.Touching.{IsTouched}
use Rattle.run_facts.proofs.Blocks.{Grows, get_grown}
use Rattle.run_facts.proofs.Members.{all_from}
use Rattle.simulation.specs.Renaming.{World, Stands, AlikeValue, cell_at, Names, BlocksStand, AlikeAt}
use Rattle.simulation_steps.proofs.AlikeOn.{old_block}
use Rattle.simulation_steps.proofs.Outcomes.{ComesToo, undefined, HoldsAlike, HoldAlike}
use Rattle.simulation_steps.proofs.StandingObjects.{of_cell}

none_held : (o : Option (Option Value)) → is_some o ≡ false → option_and_then held o ≡ None
none_held None e = refl
none_held (Some z) e = cc

module _ (p : Program) (a : Analysis) (names : Names) (w : World) (s t : State) (blocks : BlocksStand names w s t) where
  -- a cell at a location that is alike
  holds_at : (l : Location) (q : Place) → AlikeAt (is_outside p) w l s t → Counts (is_outside p) l s q.block → location_of s.origins q ≡ Some l → HoldsAlike w s t q
  holds_at l q h counts at = λ c e. by_cell c e (is_cell s.memory q) refl
    where
      by_cell : (c : ℕ) → Stands w q.block c → (live : Bool) → is_cell s.memory q ≡ live → ComesToo (AlikeValue w) (read s.memory q) (read t.memory (cell_at c q.path))
      by_cell c e true is = of_cell w (read s.memory q) (read t.memory (cell_at c q.path)) (h.cells q.block c q.path e counts is at)
      by_cell c e false is = subst (λ o. ComesToo (AlikeValue w) o (read t.memory (cell_at c q.path))) (sym (none_held (cell s.memory q) is)) undefined

  module _ (os : List Origin) (grows : Grows s.origins os) (these : Location → Type 0) (same : (l : Location) → these l → AlikeAt (is_outside p) w l s t) where
    -- a cell that is read, for whose block one of the slice stands
    touched_alike : (q : Place) → IsTouched p a s os these (holding s.memory q) → HoldsAlike w s t q
    touched_alike q h c e =
        let old = old_block names (is_outside p) w s t q.block c blocks e in
        let after_ : slice_get os q.block ≡ Some old.origin = get_grown s.origins os q.block old.origin grows old.origin_is in
        let at : location_of s.origins q ≡ Some h.location = ap (option_map (λ (o : Origin). location_in o q.path)) (old.origin_is ∙ sym after_) ∙ h.location_is in
        holds_at h.location q (same h.location h.among) (h.counts old.low) at c e

    pub reads_alike : (qs : List Place) → All (IsTouched p a s os these) (map (holding s.memory) qs) → HoldAlike w s t qs
    reads_alike qs h =
        all_from (HoldsAlike w s t) qs (λ q j. touched_alike q (All-contains (IsTouched p a s os these) (map (holding s.memory) qs) (holding s.memory q) h (contains_of_in (map (holding s.memory) qs) (holding s.memory q) (in_map (holding s.memory) qs q j))))

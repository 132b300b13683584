-- Where a slice stands: at the projection of the place of its original.
use Rattle.std.specs.Prelude.{◌≡◌, ℕ, List, Bool, true}
use Rattle.c_tree.specs.declared.program.Program.{Program}
use Rattle.dep_model.specs.SystemGraph.{Analysis}
use Rattle.projection.specs.Kept.{Kept}
use Rattle.simulation.specs.Premises.{Projected}
use Rattle.simulation_locations.specs.Chained.{chained}
use Rattle.simulation_places.specs.Counterparts.{counterpart_of, AreProjected}
use Rattle.simulation_places.specs.ProjectedCode.{Numbering}

-- in every run a kept act, call or move goes on in the projection as in the original, and at another the projection stays
abbrev pub PlacesAreProjected : Type 0
PlacesAreProjected =
    (p q : Program) (a : Analysis) (k : Kept ℕ) (new : Numbering) (kept : List Bool) (input : List ℕ) (criterion ranks holds : ℕ → Bool)
    → AreProjected p q a k new kept → Projected (chained p a kept (counterpart_of q k new input criterion ranks) (λ f. holds f ≡ true))

-- Rows that say what each function modifies and what it uses, by the places of locations in their list.
use Rattle.std.specs.Prelude.{◌≡◌, ◌↔◌, ℕ, Some, slice_get}
use Rattle.bit_rows.specs.Tables.{Holds}
use Rattle.c_tree.specs.declared.program.Program.{Program}
use Rattle.dep_model.specs.declared.points_to.Effects.{Effects}
use Rattle.dep_model.specs.Denoted.{TargetsOf}
use Rattle.dep_model.specs.LocationRows.{HasEffectRows}
use Rattle.dep_model.specs.Locations.{TypedLocation, locations}
use Rattle.dep_model.specs.ModRef.{Modifies, MayUse}

-- for each function and each location of the list, at its place, whether the function modifies it, and whether it uses it
pub record AreEffectsByPlace (p : Program) (points : TargetsOf) (e : Effects) : Type 0 where
  pub sized : HasEffectRows p e
  pub modified_are : (f k : ℕ) (o : TypedLocation) → slice_get (locations p) k ≡ Some o → Holds e.modified f k ↔ Modifies p points f o.location
  pub used_are : (f k : ℕ) (o : TypedLocation) → slice_get (locations p) k ≡ Some o → Holds e.used f k ↔ MayUse p points f o.location

-- What it says that a row has gained some locations.
use Rattle.std.specs.Prelude.{◌≡◌, ◌≢◌, ℕ, Some, ◌||◌, slice_get}
use Rattle.bit_rows.specs.Sets.{has}
use Rattle.bit_rows.specs.Tables.{Table, the_set}
use Rattle.c_tree.specs.declared.program.Program.{Program}
use Rattle.dep_model.specs.Denoted.{Places}
use Rattle.dep_model.specs.Locations.{TypedLocation, locations}
use Rattle.effect_rows.specs.Gains.{with_places, HasLocationRow}

-- row r has what it had and these locations, each at its place in the list, and all other rows stay
pub record GainsByPlace (p : Program) (r : ℕ) (places : Places) (old new : Table) : Type 0 where
  pub gained : (k : ℕ) (o : TypedLocation) → slice_get (locations p) k ≡ Some o → has (the_set new r) k ≡ (has (the_set old r) k || places o.location)
  pub others : (s : ℕ) → s ≢ r → the_set new s ≡ the_set old s

abbrev pub RowsGainByPlace : Type 0
RowsGainByPlace = (p : Program) (r : ℕ) (places : Places) (t : Table) → HasLocationRow p r t → GainsByPlace p r places t (with_places p r places t)

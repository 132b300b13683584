-- Rows of a program's locations that gain some.
use Rattle.std.specs.Prelude.{ℕ, ◌<◌, Bool, List, length, map}
use Rattle.bit_rows.specs.Sets.{union}
use Rattle.bit_rows.specs.Tables.{Table, the_set, with_set, IsSized}
use Rattle.c_tree.specs.declared.program.Program.{Program}
use Rattle.dep_model.specs.Denoted.{Places}
use Rattle.dep_model.specs.Locations.{TypedLocation, locations}

-- the row of some locations: for each location of the program, in their order, whether it is one of them
abbrev pub row_of : Program → Places → List Bool
row_of p places = map (λ (o : TypedLocation). places o.location) (locations p)

-- the table, where row r has gained some locations
abbrev pub with_places : Program → ℕ → Places → Table → Table
with_places p r places t = with_set t r (union (the_set t r) (row_of p places))

-- rows of a program's locations, of which r is one
pub record HasLocationRow (p : Program) (r : ℕ) (t : Table) : Type 0 where
  pub sized : IsSized (length t.sets) (length (locations p)) t
  pub row_in : r < length t.sets

-- Each cell has one path, and so one place and one location.
use Rattle.std.specs.Prelude.{◌≡◌, ◌↔◌, ℕ, true, List, Some}
use Rattle.c_language.specs.declared.expr_type.ExprType.{ExprType}
use Rattle.c_meaning.specs.declared.value.Hop.{Hop}
use Rattle.c_meaning.specs.declared.value.Place.{Place}
use Rattle.c_meaning.specs.Cells.{Structs, cell_number}
use Rattle.c_meaning.specs.Memory.{Memory, is_cell}
use Rattle.c_meaning.specs.Values.{Origin}
use Rattle.run_facts.specs.CellLocations.{location_of}
use Rattle.run_facts.specs.KeptCells.{IsSameCell}

-- two paths that lead to cells of one type with the same number are one path; so two places of live cells are one cell exactly where they
-- are one place, and each cell has one location
pub record HaveOnePath (structs : Structs) : Type 0 where
  pub paths : (t : ExprType) (a b : List Hop) (n : ℕ) → cell_number structs a t ≡ Some n → cell_number structs b t ≡ Some n → a ≡ b
  pub places :
      (m : Memory) (q r : Place) → m.structs ≡ structs → is_cell m q ≡ true → is_cell m r ≡ true → IsSameCell m q r ↔ (q ≡ r)
  pub locations :
      (m : Memory) (origins : List Origin) (q r : Place) → m.structs ≡ structs → is_cell m q ≡ true → is_cell m r ≡ true → IsSameCell m q r
      → location_of origins q ≡ location_of origins r

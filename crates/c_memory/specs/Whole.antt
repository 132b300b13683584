-- Blocks that are whole: a live one has the cells of its type, and one that is gone has none.
use Rattle.std.specs.Prelude.{◌≡◌, ◌<◌, List, All, length, if◌then◌else◌}
use Rattle.c_meaning.specs.Cells.{Structs, cell_count}
use Rattle.c_meaning.specs.Memory.{Block}

pub record IsWhole (structs : Structs) (b : Block) : Type 0 where
  pub cells_are : length b.cells ≡ (if b.is_live then cell_count structs b.shape else 0)
  -- so many cells can be counted
  pub countable : length b.cells < 18446744073709551615

abbrev pub AreWhole : Structs → List Block → Type 0
AreWhole structs bs = All (IsWhole structs) bs

-- A set of vertices as the one row of a table.
use Rattle.std.specs.Prelude.{ℕ, ◌≡◌, length}
use Rattle.bit_rows.specs.Tables.{Table, the_set}

-- the table has one row, for the vertices below n
pub record IsOneRow (n : ℕ) (t : Table) : Type 0 where
  pub one : length t.sets ≡ 1
  pub bits_are : t.bits ≡ n
  pub size : length (the_set t 0) ≡ n

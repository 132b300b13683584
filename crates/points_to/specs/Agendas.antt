-- Which statements have been used, and the rows of which locations each of them has read.
use Rattle.std.specs.Prelude.{◌≡◌, ℕ, ◌+◌, ◌/◌, Bool, length}
use Rattle.bit_rows.specs.Tables.{IsSized}
use Rattle.bit_rows.specs.Words.{word_bit}
use Rattle.points_to.specs.declared.agenda.Agenda.{Agenda}

-- the statement has been used, and no row that it read has grown since
abbrev pub is_settled : Agenda → ℕ → Bool
is_settled a k = word_bit a.settled.items k

-- a row of statements for each of so many locations, and a bit for each statement
pub record IsAgenda (rows : ℕ) (a : Agenda) : Type 0 where
  pub sized : IsSized rows a.readers.bits a.readers
  pub long : length a.settled.items ≡ (a.readers.bits + 63) / 64

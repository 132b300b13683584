use Rattle.bit_rows.specs.Tables.{IsSized}
use Rattle.bit_rows.proofs.tests.multiples.Given as goal

abbrev pub invariant-loop-bit : goal.invariant-loop-bit
invariant-loop-bit l = IsSized 2 l.bits l.rows

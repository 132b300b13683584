use Rattle.bit_rows.specs.Tables.{IsSized}
use Rattle.reaching_defs.proofs.tests.rows_of.Given as goal

abbrev pub invariant-loop-v : goal.invariant-loop-v
invariant-loop-v l = IsSized 6 2 l.rows

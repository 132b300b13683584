use Rattle.bit_rows.specs.Tables.{IsSized}
use Rattle.pointer_tests.proofs.typed_rows.points_to.Given as goal

abbrev pub invariant-loop-from : goal.invariant-loop-from
invariant-loop-from g l = IsSized l.count l.count l.rows

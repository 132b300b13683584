use Rattle.std.proofs.Common.{◌≡◌, ◌++◌, drop, take}
use Rattle.projection.specs.Selected.{all_left, arms_left}
use Rattle.projection.proofs.statements.Selection.+statement.Given as goal

abbrev pub invariant-arms-loop-arm : goal.invariant-arms-loop-arm
invariant-arms-loop-arm l = l.all ≡ arms_left l.self (take l.arm-index l.list)

abbrev pub invariant-body-loop-statement : goal.invariant-body-loop-statement
invariant-body-loop-statement l = l.all ++ all_left l.self (drop l.statement-index l.list) ≡ all_left l.self l.list

use Rattle.std.proofs.Common.{◌≡◌, ◌++◌, drop}
use Rattle.projection.specs.Selected.{functions_left}
use Rattle.projection.proofs.statements.Selection.functions.Given as goal

abbrev pub invariant-loop-number : goal.invariant-loop-number
invariant-loop-number l = l.all ++ functions_left l.self l.number (drop l.number l.list) ≡ functions_left l.self 0 l.list

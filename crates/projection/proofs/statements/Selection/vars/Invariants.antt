use Rattle.std.proofs.Common.{◌≡◌, ◌++◌, drop}
use Rattle.projection.specs.Selected.{vars_left}
use Rattle.projection.proofs.statements.Selection.vars.Given as goal

abbrev pub invariant-loop-x : goal.invariant-loop-x
invariant-loop-x l = l.all ++ vars_left l.self l.x (drop l.x l.list) ≡ vars_left l.self 0 l.list

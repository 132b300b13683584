use Rattle.std.proofs.Common.{◌≡◌, ◌++◌, drop}
use Rattle.projection.specs.Selected.{items_left}
use Rattle.projection.proofs.statements.Selection.items.Given as goal

abbrev pub invariant-loop-item : goal.invariant-loop-item
invariant-loop-item l = l.all ++ items_left l.self (drop l.item-index l.list) ≡ items_left l.self l.list

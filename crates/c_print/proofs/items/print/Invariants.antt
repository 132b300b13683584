use Rattle.std.proofs.Common.{◌≡◌, take}
use Rattle.c_language.specs.Layout.{items_lines}
use Rattle.c_print.proofs.items.print.Given as goal

abbrev pub invariant-loop-item : goal.invariant-loop-item
invariant-loop-item l = l.out ≡ items_lines l.program (take l.item-index l.item-items)

use Rattle.std.proofs.Common.{◌≡◌, take}
use Rattle.c_types_base.specs.Definitions.{Defines}
use Rattle.c_types_base.proofs.definitions.Definitions.of_items.Given as goal

abbrev pub invariant-loop-item : goal.invariant-loop-item
invariant-loop-item l = Defines (take l.item-index l.items) l.found × (l.found.raw.now ≡ l.raw)

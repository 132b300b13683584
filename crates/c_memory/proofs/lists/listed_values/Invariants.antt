use Rattle.std.proofs.Common.{◌≡◌, drop}
use Rattle.c_memory.specs.Scenes.{types_in, state_in}
use Rattle.c_memory.proofs.ListLemmas.{listed, with_listed}
use Rattle.c_memory.proofs.lists.listed_values.Given as goal

abbrev pub invariant-loop-item : goal.invariant-loop-item
invariant-loop-item l =
    with_listed (types_in l.s) l.element (state_in l.s) l.values.items (drop l.item-index l.items) ≡ listed (types_in l.s) l.element (state_in l.s) l.items

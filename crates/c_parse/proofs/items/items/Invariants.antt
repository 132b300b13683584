use Rattle.std.proofs.Common.{◌≡◌, ◌-◌}
use Rattle.c_parse.specs.ItemReading.{items, items_from}
use Rattle.c_parse.proofs.items.items.Given as goal

abbrev pub invariant-loop-turn : goal.invariant-loop-turn
invariant-loop-turn l = items l.depth l.fn.tokens ≡ items_from l.depth (l.turns - l._turn) l.found l.tokens

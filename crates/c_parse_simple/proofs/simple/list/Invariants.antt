use Rattle.std.proofs.Common.{◌≡◌, ◌-◌}
use Rattle.c_parse_simple.specs.SimpleReading.{list, list_from}
use Rattle.c_parse_simple.proofs.simple.list.Given as goal

abbrev pub invariant-loop-turn : goal.invariant-loop-turn
invariant-loop-turn l = list l.depth l.fn.tokens ≡ list_from l.depth (l.turns - l._turn) l.found l.tokens

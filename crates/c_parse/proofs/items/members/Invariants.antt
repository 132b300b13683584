use Rattle.std.proofs.Common.{◌≡◌, ◌-◌, [], length}
use Rattle.c_parse.specs.ItemReading.{members_from}
use Rattle.c_parse.proofs.items.members.Given as goal

abbrev pub invariant-loop-turn : goal.invariant-loop-turn
invariant-loop-turn l = members_from l.depth (length l.fn.tokens) [] l.fn.tokens ≡ members_from l.depth (l.turns - l._turn) l.found l.tokens

use Rattle.std.proofs.Common.{◌≡◌, drop}
use Rattle.c_language.specs.LeftOut as grammar
use Rattle.c_parse_left_out.proofs.around.holds_long.Given as goal

abbrev pub invariant-loop-at : goal.invariant-loop-at
invariant-loop-at l = grammar.holds_long l.fn.before ≡ grammar.holds_long (drop l.at l.fn.before)

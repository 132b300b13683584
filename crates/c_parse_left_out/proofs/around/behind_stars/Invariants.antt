use Rattle.std.proofs.Common.{◌≡◌, drop}
use Rattle.c_language.specs.LeftOut as grammar
use Rattle.c_parse_left_out.proofs.around.behind_stars.Given as goal

abbrev pub invariant-loop-at : goal.invariant-loop-at
invariant-loop-at l = grammar.behind_stars l.fn.side ≡ grammar.behind_stars (drop l.at l.fn.side)

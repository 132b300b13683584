use Rattle.std.proofs.Common.{◌≡◌, ◌≤◌, drop}
use Rattle.c_language.specs.LeftOut as grammar
use Rattle.c_parse_left_out.proofs.around.outside.Given as goal

abbrev pub invariant-loop-at : goal.invariant-loop-at
invariant-loop-at l = (grammar.outside 0 l.fn.behind ≡ grammar.outside l.opened (drop l.at l.fn.behind)) × (l.opened ≤ l.at)

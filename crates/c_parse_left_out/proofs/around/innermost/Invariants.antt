use Rattle.std.proofs.Common.{◌≡◌, ◌≤◌, drop}
use Rattle.c_language.specs.LeftOut as grammar
use Rattle.c_parse_left_out.proofs.around.innermost.Given as goal

abbrev pub invariant-loop-at : goal.invariant-loop-at
invariant-loop-at l = (grammar.innermost 0 l.fn.before ≡ grammar.innermost l.closed (drop l.at l.fn.before)) × (l.closed ≤ l.at)

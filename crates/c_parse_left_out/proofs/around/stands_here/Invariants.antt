use Rattle.std.proofs.Common.{◌≡◌, ◌≤◌, drop}
use Rattle.c_language.specs.LeftOut as grammar
use Rattle.c_parse_left_out.specs.Around as spec
use Rattle.c_parse_left_out.proofs.around.stands_here.Given as goal

abbrev pub invariant-loop-at : goal.invariant-loop-at
invariant-loop-at l = (grammar.stands_here (spec.found_by l.fn.sought) (spec.ended_by l.fn.sought) 0 l.fn.before ≡ grammar.stands_here (spec.found_by l.fn.sought) (spec.ended_by l.fn.sought) l.closed (drop l.at l.fn.before)) × (l.closed ≤ l.at)

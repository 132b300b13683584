use Rattle.std.proofs.Common.{◌≡◌}
use Rattle.c_parse_left_out.specs.Near as spec
use Rattle.c_parse_left_out.proofs.near.first_within.Given as goal

abbrev pub invariant-loop-at : goal.invariant-loop-at
invariant-loop-at l = spec.first_within l.fn.tokens l.fn.from l.fn.to ≡ spec.first_within l.fn.tokens l.at l.fn.to

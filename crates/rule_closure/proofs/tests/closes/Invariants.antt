use Rattle.std.proofs.Common.{◌≡◌}
use Rattle.rule_closure.proofs.tests.closes.Given as goal

abbrev pub invariant-loop-given : goal.invariant-loop-given
invariant-loop-given g l = l.closure.size ≡ 6

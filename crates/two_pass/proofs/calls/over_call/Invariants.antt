use Rattle.std.proofs.Common.{◌≡◌, ◌++◌, take, flat_map}
use Rattle.two_pass.specs.CallRules.{crossing_rules}
use Rattle.two_pass.proofs.calls.over_call.Given as goal

abbrev pub invariant-loop-leave : goal.invariant-loop-leave
invariant-loop-leave l = l.rules.items ≡ l.fn.rules.items ++ flat_map (crossing_rules l.size l.words l.places l.enter) (take l.leave-index l.leaves)

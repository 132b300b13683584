use Rattle.std.proofs.Common.{◌≡◌, ◌++◌, take, flat_map}
use Rattle.two_pass.specs.CallRules.{call_rules}
use Rattle.two_pass.proofs.calls.over_calls.Given as goal

abbrev pub invariant-loop-enter : goal.invariant-loop-enter
invariant-loop-enter l = l.rules.items ≡ l.fn.rules.items ++ flat_map (call_rules l.size l.edges l.words l.places) (take l.enter-index l.edges)

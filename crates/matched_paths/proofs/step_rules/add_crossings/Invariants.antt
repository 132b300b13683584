use Rattle.std.proofs.Common.{◌≡◌, ◌++◌, take, flat_map}
use Rattle.matched_paths.specs.StepRules.{crossing_rules}
use Rattle.matched_paths.proofs.step_rules.add_crossings.Given as goal

abbrev pub invariant-loop-leave : goal.invariant-loop-leave
invariant-loop-leave l = l.rules.items ≡ l.fn.rules.items ++ flat_map (crossing_rules l.range l.words l.places l.enter) (take l.leave-index l.leaves)

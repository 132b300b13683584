use Rattle.std.proofs.Common.{◌≡◌, take, flat_map}
use Rattle.matched_paths.specs.StepRules.{step_rules}
use Rattle.matched_paths.proofs.step_rules.function_rules.Given as goal

abbrev pub invariant-loop-edge : goal.invariant-loop-edge
invariant-loop-edge l = l.rules.items ≡ flat_map (step_rules l.range l.exits l.words l.places) (take l.edge-index l.edges)

use Rattle.std.proofs.Common.{◌≡◌, take}
use Rattle.flow_graph.specs.Walk.{some_default}
use Rattle.flow_graph.proofs.defaults.has_default.Given as goal

abbrev pub invariant-loop-arm : goal.invariant-loop-arm
invariant-loop-arm l = l.found ≡ some_default (take l.arm-index l.arms)

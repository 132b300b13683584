use Rattle.std.proofs.Common.{◌≡◌, take}
use Rattle.c_language.specs.Code.{has_default}
use Rattle.flow_graph.proofs.defaults.is_among.Given as goal

abbrev pub invariant-loop-label : goal.invariant-loop-label
invariant-loop-label l = l.found ≡ has_default (take l.label-index l.labels)

use Rattle.std.proofs.Common.{◌≡◌, ◌++◌, drop}
use Rattle.dep_model.specs.FunctionVertices.{passes, numbers, numbers_from}
use Rattle.dep_model.specs.Groups.{in_group}
use Rattle.dep_model.proofs.groups.numbers_of.Given as goal

abbrev pub invariant-loop-number : goal.invariant-loop-number
invariant-loop-number l = l.found.items ++ numbers_from (passes (in_group l.group) l.function) l.number (drop l.number l.vertices) ≡ numbers (in_group l.group) l.function l.vertices

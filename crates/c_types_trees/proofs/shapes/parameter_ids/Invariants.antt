use Rattle.std.proofs.Common.{◌≡◌, ◌++◌, drop}
use Rattle.c_language.specs.ProgramOf.{parameter_ids}
use Rattle.c_types_trees.proofs.shapes.parameter_ids.Given as goal

abbrev pub invariant-loop-param : goal.invariant-loop-param
invariant-loop-param l = l.ids ++ parameter_ids (drop l.param-index l.params) l.number ≡ parameter_ids l.params l.initial.number

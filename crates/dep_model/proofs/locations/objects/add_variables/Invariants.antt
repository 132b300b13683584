use Rattle.std.proofs.Common.{◌≡◌, ◌++◌, drop}
use Rattle.dep_model.specs.LocationObjects.{variable_objects}
use Rattle.dep_model.proofs.locations.objects.add_variables.Given as goal

abbrev pub invariant-loop-x : goal.invariant-loop-x
invariant-loop-x l = l.objects.items ++ variable_objects l.x (drop l.x l.vars) ≡ l.initial.objects.items ++ variable_objects 0 l.vars

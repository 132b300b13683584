use Rattle.std.proofs.Common.{◌≡◌, ◌++◌, drop}
use Rattle.dep_model.specs.LocationObjects.{result_objects}
use Rattle.dep_model.proofs.locations.objects.add_results.Given as goal

abbrev pub invariant-loop-f : goal.invariant-loop-f
invariant-loop-f l = l.objects.items ++ result_objects l.f (drop l.f l.functions) ≡ l.initial.objects.items ++ result_objects 0 l.functions

use Rattle.std.proofs.Common.{◌≡◌, ◌++◌, drop}
use Rattle.dep_model.specs.LocationObjects.{function_sites}
use Rattle.dep_model.proofs.locations.sites.add_sites.Given as goal

abbrev pub invariant-loop-function : goal.invariant-loop-function
invariant-loop-function l = l.objects.items ++ function_sites l.p (drop l.function-index l.p.functions) ≡ l.initial.objects.items ++ function_sites l.p l.p.functions

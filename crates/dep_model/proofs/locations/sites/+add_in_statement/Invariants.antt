use Rattle.std.proofs.Common.{◌≡◌, ◌++◌, drop}
use Rattle.dep_model.specs.LocationObjects.{body_sites, arm_sites}
use Rattle.dep_model.proofs.locations.sites.+add_in_statement.Given as goal

abbrev pub invariant-add_in_body-loop-child : goal.invariant-add_in_body-loop-child
invariant-add_in_body-loop-child l = l.objects.items ++ body_sites l.p (drop l.child-index l.list) ≡ l.initial.objects.items ++ body_sites l.p l.list

abbrev pub invariant-add_in_arms-loop-arm : goal.invariant-add_in_arms-loop-arm
invariant-add_in_arms-loop-arm l = l.objects.items ++ arm_sites l.p (drop l.arm-index l.arms) ≡ l.initial.objects.items ++ arm_sites l.p l.arms

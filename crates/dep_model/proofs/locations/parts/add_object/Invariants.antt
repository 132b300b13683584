use Rattle.std.proofs.Common.{◌≡◌, ◌≤◌, ◌^◌, ◌++◌, length}
use Rattle.dep_model.specs.LocationObjects.{waiting, object_locations}
use Rattle.dep_model.proofs.locations.parts.add_object.Given as goal

abbrev pub invariant-loop-next : goal.invariant-loop-next
invariant-loop-next l = record {
  is : l.list.items ++ waiting l.p l.object.root l.waiting.items ≡ l.initial.list.items ++ object_locations l.p l.object;
  few : length (waiting l.p l.object.root l.waiting.items) ≤ 2 ^ 32;
}

abbrev pub decreases-loop-next : goal.decreases-loop-next
decreases-loop-next l = length (waiting l.p l.object.root l.waiting.items)

use Rattle.std.proofs.Common.{◌≡◌, ◌≤◌, ◌^◌, ◌∷◌, ◌++◌, length, drop}
use Rattle.dep_model.specs.DoingEffects.{the_input}
use Rattle.dep_model.specs.LocationObjects.{locations_of}
use Rattle.dep_model.proofs.locations.parts.list_all.Given as goal

abbrev pub invariant-loop-object : goal.invariant-loop-object
invariant-loop-object l = record {
  is : l.list.items ++ locations_of l.p (drop l.object-index l.objects) ≡ the_input ∷ locations_of l.p l.objects;
  few : length (locations_of l.p (drop l.object-index l.objects)) ≤ 2 ^ 32;
}

use Rattle.std.proofs.Common.{◌≡◌, ◌≤◌, ◌+◌, suc, length, drop}
use Rattle.c_tree.specs.declared.program.Program.{Program}
use Rattle.dep_model.specs.LocationObjects.{AreSizes, all_structs, locations_of, capped}
use Rattle.dep_model.proofs.locations.counts.location_count.Given as goal

abbrev pub invariant-loop-object : goal.invariant-loop-object
invariant-loop-object l = record {
  is : (p : Program) → AreSizes l.sizes (all_structs p)
      → capped (l.sum + length (locations_of p (drop l.object-index l.objects))) ≡ capped (suc (length (locations_of p l.objects)));
  small : l.sum ≤ 4097;
}

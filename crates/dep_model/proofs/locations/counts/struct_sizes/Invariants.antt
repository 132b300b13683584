use Rattle.dep_model.specs.LocationObjects.{all_structs}
use Rattle.dep_model.proofs.LocationCounts.{AreFirstSizes}
use Rattle.dep_model.proofs.locations.counts.struct_sizes.Given as goal

abbrev pub invariant-loop-structure : goal.invariant-loop-structure
invariant-loop-structure l = AreFirstSizes l.sizes.items l.structure-index (all_structs l.p)

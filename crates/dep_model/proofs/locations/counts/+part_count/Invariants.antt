use Rattle.std.proofs.Common.{length}
use Rattle.dep_model.proofs.locations.counts.+part_count.Given as goal

abbrev pub decreases-part_count : goal.decreases-part_count
decreases-part_count l = length l.layers.now

use Rattle.std.proofs.Common.{length}
use Rattle.c_types_base.proofs.judging.+complete_in.Given as goal

abbrev pub decreases-complete_in : goal.decreases-complete_in
decreases-complete_in l = length l.layers.now

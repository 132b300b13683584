use Rattle.std.proofs.Common.{length}
use Rattle.c_memory.proofs.layouts.+count.Given as goal

abbrev pub decreases-count : goal.decreases-count
decreases-count l = length l.layers.now

use Rattle.std.proofs.Common.{length}
use Rattle.c_memory.proofs.comparisons.+same_hops.Given as goal

abbrev pub decreases-same_hops : goal.decreases-same_hops
decreases-same_hops l = length l.g.now

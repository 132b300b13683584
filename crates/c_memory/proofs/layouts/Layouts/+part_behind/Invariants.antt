use Rattle.std.proofs.Common.{length}
use Rattle.c_memory.proofs.layouts.Layouts.+part_behind.Given as goal

abbrev pub decreases-part_behind : goal.decreases-part_behind
decreases-part_behind l = length l.path.now

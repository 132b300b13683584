use Rattle.std.proofs.Common.{length}
use Rattle.reaching_defs.proofs.ListingLemmas.{AreLeft}
use Rattle.reaching_defs.proofs.listed_set.unmark.Given as goal

abbrev pub invariant-loop-w : goal.invariant-loop-w
invariant-loop-w l = AreLeft (length l.fn.marks) l.members l.w-index l.marks

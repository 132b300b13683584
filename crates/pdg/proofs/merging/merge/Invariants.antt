use Rattle.std.proofs.Common.{length, drop, ◌-◌, ◌≤◌, ◌+◌}
use Rattle.pdg.proofs.MergeLemmas.{IsMerge}
use Rattle.pdg.proofs.merging.merge.Given as goal

abbrev pub invariant-loop-i : goal.invariant-loop-i
invariant-loop-i l = record {
  merged : IsMerge l.left l.right l.all.items (drop l.i l.left) (drop l.j l.right);
  left_in : l.i ≤ length l.left;
  right_in : l.j ≤ length l.right;
}

abbrev pub decreases-loop-i : goal.decreases-loop-i
decreases-loop-i l = (length l.left - l.i) + (length l.right - l.j)

use Rattle.std.proofs.Common.{◌≡◌, ◌≤◌}
use Rattle.kept_numbers.specs.Ranks.{rank}
use Rattle.projection.specs.KeptVertices.{kept_words}
use Rattle.projection.proofs.numbering.rank_one_by_one.Given as goal

abbrev pub invariant-loop-other : goal.invariant-loop-other
invariant-loop-other l = record {
  below_is : l.below ≡ rank (kept_words l.kept l.vertices).statement l.other;
  small : l.below ≤ l.other;
}

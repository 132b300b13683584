use Rattle.std.proofs.Common.{◌≡◌, ◌≤◌, length}
use Rattle.bit_rows.specs.Sets.{has}
use Rattle.kept_numbers.specs.Ranks.{rank}
use Rattle.kept_numbers.proofs.RankLemmas.{AreRanks}
use Rattle.kept_numbers.proofs.ranks.Renumbering.new.Given as goal

abbrev pub invariant-loop-is_kept : goal.invariant-loop-is_kept
invariant-loop-is_kept l = record {
  len : length l.ranks.items ≡ l.is_kept-index;
  total_is : l.total ≡ rank (has l.kept) l.is_kept-index;
  small : l.total ≤ l.is_kept-index;
  ranks_are : AreRanks l.kept l.is_kept-index l.ranks.items;
}

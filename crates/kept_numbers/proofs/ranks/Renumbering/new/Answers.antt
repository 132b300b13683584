use Rattle.std.proofs.Common.{arith}
use Rattle.kept_numbers.proofs.RankLemmas.{ranks_all}
use Rattle.kept_numbers.proofs.ranks.Renumbering.new.Goals as goal

pub invariant_of-result : goal.invariant_of-result
invariant_of-result c =
    ranks_all c.args.kept.now c.loop-is_kept.is_kept-index c.loop-is_kept.total c.loop-is_kept.ranks.items (omega arith) c.loop-is_kept.invariant.len c.loop-is_kept.invariant.total_is c.loop-is_kept.invariant.ranks_are

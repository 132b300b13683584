use Rattle.std.proofs.Common.{rules, ◌≡◌, arith}
use Rattle.bit_rows.specs.Sets.{has}
use Rattle.kept_numbers.specs.Ranks.{rank}
use Rattle.kept_numbers.proofs.RankLemmas.{rank_at_most}
use Rattle.kept_numbers.proofs.ranks.Renumbering.rank.Goals as goal

pub overflow_cast-result : goal.overflow_cast-result
overflow_cast-result c =
    let is : c.unwrap_or.result ≡ rank (has c.self.inside.kept.now) c.args.number = search rules in
    omega (arith, is, rank_at_most (has c.self.inside.kept.now) c.args.number, c.ranges.number.fits)

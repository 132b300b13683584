use Rattle.std.proofs.Common.{inl, inr, arith}
use Rattle.std.proofs.lemmas.Bool.{cases_lt}
use Rattle.points_to.proofs.blocks.next_place.Goals as goal

pub loop-at-preserved : goal.loop-at-preserved
loop-at-preserved c =
    let i = c.loop-at.invariant in
    let n = c.next_block-at.ensures in
    let later = i.later in
    let more = n.later in
    record {
      later = omega (arith, later, more);
      inside = n.inside;
      passed = λ k low high. elim (cases_lt k c.loop-at.at) [
        | inl old ↦ i.passed k low old
        | inr new ↦ c.is_passed.ensures.blank c.loop-at-test.true k (n.block k new high)
      ];
    }

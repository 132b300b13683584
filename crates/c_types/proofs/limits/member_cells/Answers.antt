use Rattle.std.proofs.Common.{◌+◌, subst, sym, ◌≤◌}
use Rattle.c_types.proofs.LimitLemmas.{sum_turn, members_sum, capped_small}
use Rattle.c_types.proofs.limits.member_cells.Goals as goal

pub loop-member-preserved : goal.loop-member-preserved
loop-member-preserved c = record {
  is = λ counts h.
      sum_turn (members_sum counts) c.args.members.now c.loop-member.member-index c.member-item.result c.loop-member.sum c.capped-sum.result c.cells.result
      c.loop-member-test.true c.member-item.is (c.loop-member.invariant.is counts h) (c.cells.ensures.is counts h) c.capped-sum.ensures;
  small = subst (λ y. y ≤ 1048577) (sym c.capped-sum.ensures) (capped_small (c.loop-member.sum + c.cells.result));
}

use Rattle.std.proofs.Common.{rules}
use Rattle.c_types.proofs.LimitLemmas.{greatest_turn, members_greatest}
use Rattle.c_types.proofs.limits.longest_member.Goals as goal

pub loop-member-preserved : goal.loop-member-preserved
loop-member-preserved c =
    greatest_turn members_greatest c.args.members.now c.loop-member.member-index c.member-item.result c.loop-member.best c.max-best.result
    c.loop-member-test.true c.member-item.is c.loop-member.invariant (search rules)

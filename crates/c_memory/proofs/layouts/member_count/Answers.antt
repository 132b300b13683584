use Rattle.std.proofs.Common.{arith}
use Rattle.c_memory.proofs.CountLemmas.{members_end}
use Rattle.c_memory.proofs.layouts.member_count.Goals as goal

pub returns : goal.returns
returns c = λ known a.
    let end = c.loop-member.auto.member-index-end in
    let test = c.loop-member-test.false in
    members_end known c.args.members.now c.loop-member.member-index c.loop-member.sum _ (omega (arith, end, test)) c.loop-member.invariant.small (c.loop-member.invariant.is known a)

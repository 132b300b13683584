use Rattle.c_language.proofs.Turns.{each_turn}
use Rattle.c_print.proofs.Loops.{each_member}
use Rattle.c_print.proofs.items.members.Goals as goal

pub loop-member-preserved : goal.loop-member-preserved
loop-member-preserved c =
    each_turn (each_member c.args.program.now) c.args.all.now c.loop-member.member-index c.member-item.result c.args.out.now c.loop-member.out c.member_line.new.out
    c.loop-member-test.true c.member-item.is c.loop-member.invariant c.in_ok-member_line.ensures

use Rattle.c_types_program.proofs.StructSteps.{member_typed, member_new}
use Rattle.c_types_program.proofs.structs.listed_members.Goals as goal

pub list_member-requires-clause-typed : goal.list_member-requires-clause-typed
list_member-requires-clause-typed c =
    member_typed c.args.tables.now.raw.now c.args.list.now c.requires.kept c.loop-member.member-index c.member-item.result c.loop-member-test.true c.member-item.is

pub list_member-requires-clause-fresh : goal.list_member-requires-clause-fresh
list_member-requires-clause-fresh c =
    member_new c.args.tables.now.raw.now c.args.list.now c.requires.kept c.loop-member.member-index c.member-item.result c.loop-member-test.true c.member-item.is
    c.loop-member.listed c.loop-member.invariant

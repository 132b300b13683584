use Rattle.c_language.specs.ProgramOf.{member_tree}
use Rattle.c_types_program.specs.Items.{MakesMembers}
use Rattle.c_types_program.proofs.StructSteps.{passes_stop, member_kept, members_stop}
use Rattle.c_types_program.proofs.Turns.{made_turn, made_end}
use Rattle.c_types_program.proofs.structs.member_trees.Goals as goal

pub member_tree-requires-clause-kept : goal.member_tree-requires-clause-kept
member_tree-requires-clause-kept c =
    member_kept c.args.defined.now.raw.now c.args.list.now c.requires.kept c.loop-member.member-index c.member-item.result c.loop-member-test.true c.member-item.is

pub returns-in_err-tree : goal.returns-in_err-tree
returns-in_err-tree c =
    passes_stop (MakesMembers c.args.defined.now.raw.now c.args.list.now) c.in_err-tree.field-0.0 c.from_residual.result c.from_residual.ensures.1
    (members_stop c.args.defined.now.raw.now c.args.list.now c.requires.kept c.loop-member.member-index c.member-item.result c.loop-member-test.true c.member-item.is
    c.in_err-tree.field-0.0 c.in_err-tree.ensures)

pub loop-member-preserved : goal.loop-member-preserved
loop-member-preserved c =
    made_turn (member_tree c.args.defined.now.raw.now) c.args.list.now c.loop-member.member-index c.member-item.result c.in_ok-tree.tree c.loop-member.made c.push.new.self _
    c.loop-member-test.true c.member-item.is c.in_ok-tree.ensures c.in_ok-push.ensures.ok c.loop-member.invariant

pub returns : goal.returns
returns c = made_end (member_tree c.args.defined.now.raw.now) c.args.list.now c.loop-member.member-index c.loop-member.made c.loop-member-test.false c.loop-member.invariant

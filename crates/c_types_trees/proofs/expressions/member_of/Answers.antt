use Rattle.std.proofs.Common.{sym, ap, ◌∙◌, option_and_then}
use Rattle.c_language.specs.ExprTypes.{struct_of}
use Rattle.c_language.specs.ProgramOf.{member_id, of_operand}
use Rattle.c_types_base.proofs.TreeLemmas.{operand-judged}
use Rattle.c_types_base.specs.Tables.{scope_of}
use Rattle.c_types_trees.proofs.KeptLemmas.{member_there}
use Rattle.c_types_trees.proofs.expressions.member_of.Goals as goal

pub unreachable-requires : goal.unreachable-requires
unreachable-requires c =
    member_there c.args.tables.now.raw.now (scope_of c.args.tables.now) c.args.a.now c.args.name.now c.in_ok-object.object c.in_ok-object.ensures c.requires.meant
    (ap (λ r. option_and_then (member_id r c.args.name.now) (struct_of c.in_ok-object.object.shape)) (sym c.requires.right.text) ∙ (sym c.member_of.ensures ∙ c.in-None.is))

pub returns : goal.returns
returns c =
    ap (of_operand c.args.tables.now.raw.now c.args.name.now)
    (operand-judged c.args.tables.now.raw.now (scope_of c.args.tables.now) c.args.a.now c.in_ok-object.object c.in_ok-object.ensures)
    ∙ (ap (λ r. option_and_then (member_id r c.args.name.now) (struct_of c.in_ok-object.object.shape)) (sym c.requires.right.text) ∙ (sym c.member_of.ensures ∙ c.in-Some.is))

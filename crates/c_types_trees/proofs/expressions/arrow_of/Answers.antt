use Rattle.std.proofs.Common.{sym, ap, ◌∙◌, option_and_then}
use Rattle.c_language.specs.ExprTypes.{struct_of}
use Rattle.c_language.specs.ProgramOf.{member_id, of_pointed}
use Rattle.c_types_base.proofs.TreeLemmas.{operand-judged}
use Rattle.c_types_base.specs.Tables.{scope_of}
use Rattle.c_types_trees.proofs.KeptLemmas.{arrow_there}
use Rattle.c_types_trees.proofs.expressions.arrow_of.Goals as goal

pub unreachable-requires-in-None : goal.unreachable-requires-in-None
unreachable-requires-in-None c =
    arrow_there c.args.tables.now.raw.now (scope_of c.args.tables.now) c.args.a.now c.args.name.now c.in_ok-pointer.pointer c.in-Some.t c.in_ok-pointer.ensures
    c.requires.meant (sym c.pointed.ensures ∙ c.in-Some.is)
    (ap (λ r. option_and_then (member_id r c.args.name.now) (struct_of c.in-Some.t)) (sym c.requires.right.text) ∙ (sym c.member_of.ensures ∙ c.in-None.is))

pub returns : goal.returns
returns c =
    ap (of_pointed c.args.tables.now.raw.now c.args.name.now)
    (operand-judged c.args.tables.now.raw.now (scope_of c.args.tables.now) c.args.a.now c.in_ok-pointer.pointer c.in_ok-pointer.ensures)
    ∙ (ap (λ o. option_and_then (λ t. option_and_then (member_id c.args.tables.now.raw.now c.args.name.now) (struct_of t)) o) (sym c.pointed.ensures ∙ c.in-Some.is)
    ∙ (ap (λ r. option_and_then (member_id r c.args.name.now) (struct_of c.in-Some.t)) (sym c.requires.right.text)
    ∙ (sym c.member_of.ensures ∙ c.in-Some-member_of.is)))

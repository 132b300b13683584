use Rattle.std.proofs.Common.{Some, sym, ap, ◌∙◌}
use Rattle.c_types_trees.proofs.PartLemmas.{switch_operand, switch_integer, switch_promoted}
use Rattle.c_types_trees.proofs.parts.switch_type.Goals as goal

pub operand_of-requires-clause-operand : goal.operand_of-requires-clause-operand
operand_of-requires-clause-operand c = switch_operand c.args.tables.now c.requires.right c.args.test.now c.requires.kept

pub unreachable-requires : goal.unreachable-requires
unreachable-requires c = switch_integer c.args.tables.now c.requires.right c.args.test.now c.in_ok-operand.operand c.requires.kept c.in_ok-operand.ensures (sym c.integer_of.ensures ∙ c.in-None.is)

pub returns : goal.returns
returns c = switch_promoted c.args.tables.now c.requires.right c.args.test.now c.in_ok-operand.operand c.in-Some.t c.in_ok-operand.ensures (sym c.integer_of.ensures ∙ c.in-Some.is) ∙ ap Some (sym c.promote.ensures.value)

use Rattle.c_types_trees.proofs.PartLemmas.{returned_operand}
use Rattle.c_types_trees.proofs.parts.return_tree.Goals as goal

pub tree_of-requires-clause-operand : goal.tree_of-requires-clause-operand
tree_of-requires-clause-operand c = returned_operand c.args.tables.now c.requires.right c.args.value.now c.in-Some.expr c.in-Some.is c.requires.kept

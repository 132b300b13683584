use Rattle.c_types_trees.proofs.PartLemmas.{assigned_operand, stored_operand}
use Rattle.c_types_trees.proofs.parts.assign_tree.Goals as goal

pub tree_of-requires-clause-operand : goal.tree_of-requires-clause-operand
tree_of-requires-clause-operand c = assigned_operand c.args.tables.now c.requires.right c.args.left.now c.args.op c.args.right.now c.requires.kept

pub tree_of-requires-2-clause-operand : goal.tree_of-requires-2-clause-operand
tree_of-requires-2-clause-operand c = stored_operand c.args.tables.now c.requires.right c.args.left.now c.args.op c.args.right.now c.requires.kept

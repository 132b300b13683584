use Rattle.c_types_trees.proofs.PartLemmas.{bumped_operand}
use Rattle.c_types_trees.proofs.parts.bump_tree.Goals as goal

pub tree_of-requires-clause-operand : goal.tree_of-requires-clause-operand
tree_of-requires-clause-operand c = bumped_operand c.args.tables.now c.requires.right c.args.left.now c.requires.kept

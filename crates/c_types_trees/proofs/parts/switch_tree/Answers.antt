use Rattle.c_types_trees.proofs.PartLemmas.{switch_operand}
use Rattle.c_types_trees.proofs.parts.switch_tree.Goals as goal

pub tree_of-requires-clause-operand : goal.tree_of-requires-clause-operand
tree_of-requires-clause-operand c = switch_operand c.args.tables.now c.requires.right c.args.test.now c.requires.kept

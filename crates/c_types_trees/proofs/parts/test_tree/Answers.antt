use Rattle.c_types_trees.proofs.PartLemmas.{tested_operand}
use Rattle.c_types_trees.proofs.parts.test_tree.Goals as goal

pub tree_of-requires-clause-operand : goal.tree_of-requires-clause-operand
tree_of-requires-clause-operand c = tested_operand c.args.tables.now c.requires.right c.args.test.now c.requires.kept

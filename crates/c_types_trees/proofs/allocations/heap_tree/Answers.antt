use Rattle.c_types_base.specs.Tables.{scope_of}
use Rattle.c_types_trees.proofs.HeapLemmas.{cast_given, sizes_given, count_operands}
use Rattle.c_types_trees.proofs.allocations.heap_tree.Goals as goal

pub cast_shape-requires-clause-there : goal.cast_shape-requires-clause-there
cast_shape-requires-clause-there c = cast_given c.args.tables.now.raw.now (scope_of c.args.tables.now) c.args.cast.now c.args.amount.now c.requires.kept

pub amount_tree-requires-clause-there : goal.amount_tree-requires-clause-there
amount_tree-requires-clause-there c = sizes_given c.args.tables.now.raw.now (scope_of c.args.tables.now) c.args.cast.now c.args.amount.now c.requires.kept

pub amount_tree-requires-clause-operands : goal.amount_tree-requires-clause-operands
amount_tree-requires-clause-operands c = count_operands c.args.tables.now c.requires.right c.args.cast.now c.args.amount.now c.requires.kept

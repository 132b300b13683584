use Rattle.std.proofs.Common.{sym, subst}
use Rattle.c_types_base.specs.Tables.{scope_of}
use Rattle.c_types_trees.specs.KeptPhrases.{IsKeptInit, AreOperands}
use Rattle.c_types_trees.proofs.PartLemmas.{one_operand, items_operands}
use Rattle.c_types_trees.proofs.parts.init_tree.Goals as goal

pub tree_of-requires-clause-operand : goal.tree_of-requires-clause-operand
tree_of-requires-clause-operand c =
    one_operand c.args.tables.now c.requires.right c.in-One.value (subst (IsKeptInit c.args.tables.now.raw.now (scope_of c.args.tables.now)) c.in-One.is c.requires.kept)

pub trees_of-requires-clause-operands : goal.trees_of-requires-clause-operands
trees_of-requires-clause-operands c =
    subst (AreOperands c.args.tables.now.raw.now (scope_of c.args.tables.now)) (sym c.as_slice.ensures)
    (items_operands c.args.tables.now c.requires.right c.in-Items.values
    (subst (IsKeptInit c.args.tables.now.raw.now (scope_of c.args.tables.now)) c.in-Items.is c.requires.kept))

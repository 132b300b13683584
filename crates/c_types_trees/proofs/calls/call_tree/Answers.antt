use Rattle.std.proofs.Common.{sym, ◌∙◌}
use Rattle.c_types_base.specs.Tables.{scope_of}
use Rattle.c_types_trees.proofs.CallLemmas.{putchar_only, free_only, printf_format, function_defined, call_operands, printf_values, function_values}
use Rattle.c_types_trees.proofs.calls.call_tree.Goals as goal

pub only_tree-requires-clause-only : goal.only_tree-requires-clause-only
only_tree-requires-clause-only c = putchar_only c.args.tables.now.raw.now (scope_of c.args.tables.now) c.args.function.now c.args.args.now c.requires.kept (sym c.is_named-2.ensures ∙ c.if-is_named-2.true)

pub only_tree-requires-clause-operands : goal.only_tree-requires-clause-operands
only_tree-requires-clause-operands c = call_operands c.args.tables.now c.requires.right c.args.function.now c.args.args.now c.requires.kept

pub print_tree-requires-clause-format : goal.print_tree-requires-clause-format
print_tree-requires-clause-format c = printf_format c.args.tables.now.raw.now (scope_of c.args.tables.now) c.args.function.now c.args.args.now c.requires.kept (sym c.is_named-3.ensures ∙ c.if-is_named-3.true)

pub print_tree-requires-clause-values : goal.print_tree-requires-clause-values
print_tree-requires-clause-values c = printf_values c.args.tables.now c.requires.right c.args.function.now c.args.args.now c.requires.kept (sym c.is_named-3.ensures ∙ c.if-is_named-3.true)

pub only_tree-requires-then-is_named-4-clause-only : goal.only_tree-requires-then-is_named-4-clause-only
only_tree-requires-then-is_named-4-clause-only c = free_only c.args.tables.now.raw.now (scope_of c.args.tables.now) c.args.function.now c.args.args.now c.requires.kept (sym c.is_named-4.ensures ∙ c.if-is_named-4.true)

pub only_tree-requires-then-is_named-4-clause-operands : goal.only_tree-requires-then-is_named-4-clause-operands
only_tree-requires-then-is_named-4-clause-operands c = call_operands c.args.tables.now c.requires.right c.args.function.now c.args.args.now c.requires.kept

pub invoke_tree-requires-clause-defined : goal.invoke_tree-requires-clause-defined
invoke_tree-requires-clause-defined c = function_defined c.args.tables.now.raw.now (scope_of c.args.tables.now) c.args.function.now c.args.args.now c.requires.kept (sym c.is_named.ensures ∙ c.if-is_named.false) (sym c.is_named-2.ensures ∙ c.if-is_named-2.false) (sym c.is_named-3.ensures ∙ c.if-is_named-3.false) (sym c.is_named-4.ensures ∙ c.if-is_named-4.false)

pub invoke_tree-requires-clause-values : goal.invoke_tree-requires-clause-values
invoke_tree-requires-clause-values c = function_values c.args.tables.now c.requires.right c.args.function.now c.args.args.now c.requires.kept (sym c.is_named.ensures ∙ c.if-is_named.false) (sym c.is_named-2.ensures ∙ c.if-is_named-2.false) (sym c.is_named-3.ensures ∙ c.if-is_named-3.false) (sym c.is_named-4.ensures ∙ c.if-is_named-4.false)

use Rattle.std.proofs.Common.{◌≡◌, take, Some}
use Rattle.c_language.specs.ProgramOf.{args_tree}
use Rattle.c_types_base.specs.Tables.{scope_of}
use Rattle.c_types_trees.proofs.calls.args_tree.Given as goal

abbrev pub invariant-loop-arg : goal.invariant-loop-arg
invariant-loop-arg l = args_tree l.tables.raw.now (scope_of l.tables) (take l.arg-index l.args) ≡ Some l.all

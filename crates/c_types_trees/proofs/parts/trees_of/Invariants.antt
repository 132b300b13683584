use Rattle.std.proofs.Common.{◌≡◌, take, Some}
use Rattle.c_language.specs.ProgramOf.{exprs_of}
use Rattle.c_types_base.specs.Tables.{scope_of}
use Rattle.c_types_trees.proofs.parts.trees_of.Given as goal

abbrev pub invariant-loop-expr : goal.invariant-loop-expr
invariant-loop-expr l = exprs_of l.tables.raw.now (scope_of l.tables) (take l.expr-index l.exprs) ≡ Some l.all

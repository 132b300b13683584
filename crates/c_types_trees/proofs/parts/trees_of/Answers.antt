use Rattle.std.proofs.Common.{Some, sym, ap, ◌∙◌}
use Rattle.c_language.specs.ProgramOf.{expr_of}
use Rattle.c_types_base.specs.Tables.{scope_of}
use Rattle.c_types_trees.proofs.Collected.{collected_turn}
use Rattle.c_types_trees.proofs.parts.trees_of.Goals as goal

pub loop-expr-preserved : goal.loop-expr-preserved
loop-expr-preserved c =
    collected_turn (expr_of c.args.tables.now.raw.now (scope_of c.args.tables.now)) c.args.exprs.now c.loop-expr.expr-index c.expr-item.result c.loop-expr.all c.in_ok-tree.tree
    c.loop-expr-test.true c.expr-item.is c.loop-expr.invariant c.in_ok-tree.ensures
    ∙ ap Some (sym c.in_ok-push.ensures.ok)

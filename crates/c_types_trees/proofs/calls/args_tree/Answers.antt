use Rattle.std.proofs.Common.{Some, sym, ap, ◌∙◌}
use Rattle.c_language.specs.ProgramOf.{arg_tree}
use Rattle.c_types_base.specs.Tables.{scope_of}
use Rattle.c_types_trees.proofs.Collected.{collected_turn}
use Rattle.c_types_trees.proofs.calls.args_tree.Goals as goal

pub loop-arg-preserved : goal.loop-arg-preserved
loop-arg-preserved c =
    collected_turn (arg_tree c.args.tables.now.raw.now (scope_of c.args.tables.now)) c.args.args.now c.loop-arg.arg-index c.arg-item.result c.loop-arg.all c.in_ok-tree.tree
    c.loop-arg-test.true c.arg-item.is c.loop-arg.invariant c.in_ok-tree.ensures
    ∙ ap Some (sym c.in_ok-push.ensures.ok)

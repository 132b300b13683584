use Rattle.std.proofs.Common.{rules}
use Rattle.c_types.proofs.LimitLemmas.{capped_turn, cells_greatest}
use Rattle.c_types.proofs.limits.greatest_variable.Goals as goal

pub loop-var-preserved : goal.loop-var-preserved
loop-var-preserved c = λ counts h.
    capped_turn (cells_greatest counts) c.args.vars.now c.loop-var.var-index c.var-item.result c.loop-var.best c.max-best.result c.cells.result
    c.loop-var-test.true c.var-item.is (c.loop-var.invariant counts h) (c.cells.ensures.is counts h) (search rules)

use Rattle.std.proofs.Common.{rules}
use Rattle.c_types.proofs.LimitLemmas.{greatest_turn, variables_greatest}
use Rattle.c_types.proofs.limits.longest_in_variables.Goals as goal

pub loop-var-preserved : goal.loop-var-preserved
loop-var-preserved c =
    greatest_turn variables_greatest c.args.vars.now c.loop-var.var-index c.var-item.result c.loop-var.best c.max-best.result
    c.loop-var-test.true c.var-item.is c.loop-var.invariant (search rules)

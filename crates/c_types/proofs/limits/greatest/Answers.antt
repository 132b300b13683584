use Rattle.std.proofs.Common.{rules}
use Rattle.c_types.proofs.LimitLemmas.{greatest_turn_at, numbers_greatest}
use Rattle.c_types.proofs.limits.greatest.Goals as goal

pub loop-n-preserved : goal.loop-n-preserved
loop-n-preserved c =
    greatest_turn_at numbers_greatest c.args.all.now c.loop-n.n-index 0 c.loop-n.best c.max-best.result c.loop-n-test.true c.loop-n.invariant (search rules)

use Rattle.std.proofs.Common.{rules}
use Rattle.c_types.proofs.LimitLemmas.{greatest_turn, structs_greatest}
use Rattle.c_types.proofs.limits.longest_in_structs.Goals as goal

pub loop-structure-preserved : goal.loop-structure-preserved
loop-structure-preserved c =
    greatest_turn structs_greatest c.args.structs.now c.loop-structure.structure-index c.structure-item.result c.loop-structure.best c.max-best.result
    c.loop-structure-test.true c.structure-item.is c.loop-structure.invariant (search rules)

use Rattle.std.proofs.Common.{take}
use Rattle.c_tree.specs.Numbered.{arms_inner}
use Rattle.c_tree.specs.Search.{IsFree}
use Rattle.c_tree.proofs.numbered.+search.Given as goal

abbrev pub invariant-among-loop-statement : goal.invariant-among-loop-statement
invariant-among-loop-statement l = IsFree l.id (take l.statement-index l.list)

abbrev pub invariant-in_arms-loop-arm : goal.invariant-in_arms-loop-arm
invariant-in_arms-loop-arm l = IsFree l.id (arms_inner (take l.arm-index l.arms))

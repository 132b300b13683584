use Rattle.std.proofs.Common.{take}
use Rattle.forward_chop.specs.Outs.{HaveWidened, PairsBy}
use Rattle.forward_chop.proofs.outs.add_leaves.Given as goal

abbrev pub invariant-loop-leave : goal.invariant-loop-leave
invariant-loop-leave l = HaveWidened (PairsBy l.enter (take l.leave-index l.leaves)) l.initial.outs l.outs

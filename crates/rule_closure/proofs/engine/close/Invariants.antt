use Rattle.std.proofs.Common.{◌-◌, length}
use Rattle.rule_closure.proofs.Marking.{IsMarking}
use Rattle.rule_closure.proofs.engine.close.Given as goal

abbrev pub invariant-loop-done : goal.invariant-loop-done
invariant-loop-done l = IsMarking l.links l.fn.set l.done l.order l.filled l.set

abbrev pub decreases-loop-done : goal.decreases-loop-done
decreases-loop-done l = length l.fn.set - l.done

use Rattle.rule_closure.proofs.Marking.{IsVisiting}
use Rattle.rule_closure.proofs.engine.visit.Given as goal

abbrev pub invariant-loop-cursor : goal.invariant-loop-cursor
invariant-loop-cursor l = IsVisiting l.links l.v l.fn.order l.fn.filled l.fn.set l.cursor l.order l.filled l.set

abbrev pub decreases-loop-cursor : goal.decreases-loop-cursor
decreases-loop-cursor l = l.cursor

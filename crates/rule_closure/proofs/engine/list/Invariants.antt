use Rattle.rule_closure.proofs.Marking.{IsListing}
use Rattle.rule_closure.proofs.engine.list.Given as goal

abbrev pub invariant-loop-v : goal.invariant-loop-v
invariant-loop-v l = IsListing l.set l.v l.order l.filled

use Rattle.rule_closure.proofs.Chains.{AreChained}
use Rattle.rule_closure.proofs.engine.index.Given as goal

abbrev pub invariant-loop-e : goal.invariant-loop-e
invariant-loop-e l = AreChained l.links l.e l.heads l.nexts

use Rattle.dep_model.proofs.SwitchLemmas.{AreTakenSoFar}
use Rattle.dep_model.proofs.switch_arms.taken_arms.Given as goal

abbrev pub invariant-loop-arm : goal.invariant-loop-arm
invariant-loop-arm l = AreTakenSoFar l.arms l.arm-index l.seen l.taken.items

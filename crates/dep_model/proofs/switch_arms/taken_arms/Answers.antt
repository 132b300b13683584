use Rattle.std.proofs.Common.{[], length, ap, ◌∙◌}
use Rattle.dep_model.proofs.SwitchLemmas.{taken_all, length-taken}
use Rattle.dep_model.proofs.switch_arms.taken_arms.Goals as goal

pub returns-clause-for_each : goal.returns-clause-for_each
returns-clause-for_each c =
    ap length (taken_all c.loop-arm-test.false c.loop-arm.invariant) ∙ length-taken [] c.args.arms.now

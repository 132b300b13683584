use Rattle.std.proofs.Common.{sym, ap, ◌∙◌}
use Rattle.c_language.specs.Code.{has_default}
use Rattle.c_machine.proofs.RestLemmas.{default_here, default_behind}
use Rattle.c_machine.proofs.rests.default_arm.Goals as goal

pub returns-then-has_default : goal.returns-then-has_default
returns-then-has_default c =
    sym (default_here c.args.arms.now c.loop-arm.arm-index c.arm-item.result c.loop-arm-test.true c.arm-item.is (ap has_default (sym c.as_slice.ensures) ∙ sym c.has_default.ensures ∙ c.if-has_default.true))
    ∙ c.loop-arm.invariant

pub loop-arm-preserved : goal.loop-arm-preserved
loop-arm-preserved c =
    sym (default_behind c.args.arms.now c.loop-arm.arm-index c.arm-item.result c.loop-arm-test.true c.arm-item.is (ap has_default (sym c.as_slice.ensures) ∙ sym c.has_default.ensures ∙ c.if-has_default.false))
    ∙ c.loop-arm.invariant

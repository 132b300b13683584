use Rattle.std.proofs.Common.{ℤ, map, refl, sym, ap, ap₂, ◌∙◌}
use Rattle.std.proofs.lemmas.Int.{to_z-of_z}
use Rattle.std.specs.Int.{w128}
use Rattle.c_language.specs.Code.{has_case, case_arm}
use Rattle.c_machine.specs.Rests.{arm_part}
use Rattle.c_machine.proofs.RestLemmas.{case_here, case_behind}
use Rattle.c_machine.proofs.rests.case_arm.Goals as goal

pub returns-then-has_case : goal.returns-then-has_case
returns-then-has_case c = λ other.
    let has = ap₂ has_case refl (sym c.as_slice.ensures) ∙ sym c.has_case.ensures ∙ c.if-has_case.true in
    sym (case_here c.args.arms.now c.loop-arm.arm-index c.arm-item.result c.loop-arm-test.true c.arm-item.is _ other has)
    ∙ c.loop-arm.invariant other
    ∙ ap (λ (v : ℤ). case_arm (map arm_part c.args.arms.now) v other) (to_z-of_z w128 c.args.value c.ranges.value)

pub loop-arm-preserved : goal.loop-arm-preserved
loop-arm-preserved c = λ other.
    let none = ap₂ has_case refl (sym c.as_slice.ensures) ∙ sym c.has_case.ensures ∙ c.if-has_case.false in
    sym (case_behind c.args.arms.now c.loop-arm.arm-index c.arm-item.result c.loop-arm-test.true c.arm-item.is _ other none)
    ∙ c.loop-arm.invariant other

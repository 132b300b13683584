use Rattle.std.proofs.Common.{ℤ, sym, ap, ◌∙◌}
use Rattle.std.proofs.lemmas.Int.{to_z-of_z}
use Rattle.std.specs.Int.{w128}
use Rattle.c_language.specs.Code.{has_case}
use Rattle.c_machine.proofs.RestLemmas.{case_label, other_label}
use Rattle.c_machine.proofs.rests.has_case.Goals as goal

pub returns-then-is_case : goal.returns-then-is_case
returns-then-is_case c =
    sym (case_label c.args.labels.now c.loop-label.label-index c.label-item.result c.loop-label-test.true c.label-item.is _ (sym c.is_case.ensures ∙ c.if-is_case.true))
    ∙ c.loop-label.invariant
    ∙ ap (λ (v : ℤ). has_case v c.args.labels.now) (to_z-of_z w128 c.args.value c.ranges.value)

pub loop-label-preserved : goal.loop-label-preserved
loop-label-preserved c =
    sym (other_label c.args.labels.now c.loop-label.label-index c.label-item.result c.loop-label-test.true c.label-item.is _ (sym c.is_case.ensures ∙ c.if-is_case.false))
    ∙ c.loop-label.invariant

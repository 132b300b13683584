use Rattle.std.proofs.Common.{sym, ◌∙◌}
use Rattle.c_machine.proofs.RestLemmas.{default_label, case_of_it}
use Rattle.c_machine.proofs.rests.has_default.Goals as goal

pub returns-then-is_default : goal.returns-then-is_default
returns-then-is_default c =
    sym (default_label c.args.labels.now c.loop-label.label-index c.label-item.result c.loop-label-test.true c.label-item.is (sym c.is_default.ensures ∙ c.if-is_default.true)) ∙ c.loop-label.invariant

pub loop-label-preserved : goal.loop-label-preserved
loop-label-preserved c =
    sym (case_of_it c.args.labels.now c.loop-label.label-index c.label-item.result c.loop-label-test.true c.label-item.is (sym c.is_default.ensures ∙ c.if-is_default.false)) ∙ c.loop-label.invariant

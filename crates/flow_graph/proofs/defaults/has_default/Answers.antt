use Rattle.std.proofs.Common.{take, sym, ap, ◌∙◌}
use Rattle.std.specs.Prelude.{◌||◌}
use Rattle.c_language.specs.Code.{has_default}
use Rattle.flow_graph.specs.Walk.{some_default}
use Rattle.flow_graph.proofs.Turns.{defaults_more}
use Rattle.flow_graph.proofs.defaults.has_default.Goals as goal

pub loop-arm-preserved : goal.loop-arm-preserved
loop-arm-preserved c =
    let as_ = c.args.arms.now in
    let i = c.loop-arm.arm-index in
    ap (λ x. x || c.is_among-has.result) c.loop-arm.invariant ∙ ap (λ x. some_default (take i as_) || x) (c.is_among-has.ensures ∙ ap has_default c.as_slice.ensures) ∙ sym (defaults_more as_ i c.arm-item.result c.loop-arm-test.true (sym c.arm-item.is))

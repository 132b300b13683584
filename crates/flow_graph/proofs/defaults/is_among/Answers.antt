use Rattle.std.proofs.Common.{take, sym, ap, ◌∙◌}
use Rattle.std.specs.Prelude.{◌||◌}
use Rattle.c_language.specs.Code.{has_default}
use Rattle.flow_graph.proofs.Turns.{labels_more}
use Rattle.flow_graph.proofs.defaults.is_among.Goals as goal

pub loop-label-preserved : goal.loop-label-preserved
loop-label-preserved c =
    let ls = c.args.labels.now in
    let i = c.loop-label.label-index in
    ap (λ x. x || c.is_default-is.result) c.loop-label.invariant ∙ ap (λ x. has_default (take i ls) || x) c.is_default-is.ensures ∙ sym (labels_more ls i c.label-item.result c.loop-label-test.true (sym c.label-item.is))

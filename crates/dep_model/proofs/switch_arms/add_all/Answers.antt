use Rattle.std.proofs.Common.{List, take, sym, ap, ◌∙◌, subst}
use Rattle.std.specs.Prelude.{◌||◌}
use Rattle.c_tree.specs.declared.statement.Label.{Label}
use Rattle.dep_model.specs.SwitchArms.{has_first, with_labels, AreSeen}
use Rattle.dep_model.proofs.SwitchLemmas.{with_more, first_more}
use Rattle.dep_model.proofs.switch_arms.add_all.Goals as goal

pub loop-label-preserved : goal.loop-label-preserved
loop-label-preserved c =
    let ls = c.args.labels.now in
    let i = c.loop-label.label-index in
    let l = c.label-item.result in
    record {
      are_seen = λ (before : List Label) (h : AreSeen before c.args.seen.now).
          subst (λ x. AreSeen x c.add.new.seen) (sym (with_more before ls i l c.loop-label-test.true (sym c.label-item.is))) (c.in_ok-is_first.ensures.seen (with_labels before (take i ls)) (c.loop-label.invariant.are_seen before h));
      is_first = λ (before : List Label) (h : AreSeen before c.args.seen.now).
          ap (λ x. x || c.in_ok-is_first.is_first) (c.loop-label.invariant.is_first before h) ∙ ap (λ x. has_first before (take i ls) || x) (c.in_ok-is_first.ensures.first (with_labels before (take i ls)) (c.loop-label.invariant.are_seen before h)) ∙ sym (first_more before ls i l c.loop-label-test.true (sym c.label-item.is));
    }

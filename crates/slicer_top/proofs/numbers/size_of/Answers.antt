use Rattle.std.proofs.Common.{◌≤◌, ◌<◌, ◌+◌, Bool, false, length, ap, subst, sym, ◌∙◌, arith}
use Rattle.std.proofs.lemmas.List.{take_all}
use Rattle.std.proofs.lemmas.List.Sums.{count_by_more_yes, count_by_more_no}
use Rattle.slicer_top.specs.SliceNumbers as spec
use Rattle.slicer_top.proofs.numbers.size_of.Goals.{then-has, else-has}
use Rattle.slicer_top.proofs.numbers.size_of.Goals as goal

pub loop-v-preserved : goal.loop-v-preserved
loop-v-preserved c =
    let v = c.loop-v.v in
    let set = c.args.set.now in
    let within = subst (λ k. v < k) c.len-v-end.ensures c.loop-v-test.true in
    elim c.if-has.branch [
      | then-has w ↦ w.size-is ∙ ap (λ n. n + 1) c.loop-v.invariant ∙ sym (count_by_more_yes (λ (b : Bool). b) set v false within (sym c.has.ensures ∙ w.if-has.true))
      | else-has w ↦ w.size-is ∙ c.loop-v.invariant ∙ sym (count_by_more_no (λ (b : Bool). b) set v false within (sym c.has.ensures ∙ w.if-has.false))
    ]

pub returns : goal.returns
returns c =
    let past : length c.args.set.now ≤ c.loop-v.v = let behind = c.loop-v-test.false in let end = c.len-v-end.ensures in omega (arith, behind, end) in
    c.loop-v.invariant ∙ ap spec.size_of (take_all c.loop-v.v c.args.set.now past)

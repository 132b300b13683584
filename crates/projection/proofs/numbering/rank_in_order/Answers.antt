use Rattle.std.proofs.Common.{◌+◌, ◌<◌, ◌≤◌, length, sym, ap, ◌∙◌, arith}
use Rattle.projection.proofs.OrderLemmas.{rank_first, order_first, rank_none, order_none, rank_own_above, rank_own_below, order_own}
use Rattle.projection.proofs.numbering.rank_in_order.Goals as goal
use Rattle.projection.proofs.numbering.rank_in_order.Goals.{in-Some+else-own-next+then-own-id, in-Some+else-own-next+else-own-id, in_default}

pub loop-number-init : goal.loop-number-init
loop-number-init c = record {
  below_is = rank_first c.args.kept.now c.args.vertices.now c.args.id;
  small = omega arith;
  ordered = order_first c.args.kept.now c.args.vertices.now;
}

pub loop-number-preserved : goal.loop-number-preserved
loop-number-preserved c =
    let set = c.args.kept.now in
    let vs = c.args.vertices.now in
    let n = c.loop-number.number in
    let found = c.kept_number.result in
    let lt : n < length vs = omega (arith, c.loop-number-test.true, c.len-number-end.ensures, c.requires) in
    let inv = c.loop-number.invariant in
    let small = inv.small in
    elim c.match-kept_number.branch [
      | in-Some+else-own-next+then-own-id w ↦
          let own = w.in-Some.own in
          let ge : c.loop-number.next ≤ own = omega (arith, w.if-own-next.false) in
          let below : own < c.args.id = omega (arith, w.if-own-id.true) in
          let is = w.below-is in
          let behind = w.next-is in
          record {
            below_is = is ∙ ap (λ k. k + 1) inv.below_is ∙ sym (rank_own_below set vs n found lt c.kept_number.ensures own c.loop-number.next w.in-Some.is ge inv.ordered c.args.id below);
            small = omega (arith, is, small);
            ordered = λ i h. let e = order_own set vs n found lt c.kept_number.ensures own c.loop-number.next w.in-Some.is ge inv.ordered i h in omega (arith, e, behind);
          }
      | in-Some+else-own-next+else-own-id w ↦
          let own = w.in-Some.own in
          let ge : c.loop-number.next ≤ own = omega (arith, w.if-own-next.false) in
          let above : c.args.id ≤ own = omega (arith, w.if-own-id.false) in
          let is = w.below-is in
          let behind = w.next-is in
          record {
            below_is = is ∙ inv.below_is ∙ sym (rank_own_above set vs n found lt c.kept_number.ensures own c.loop-number.next w.in-Some.is ge inv.ordered c.args.id above);
            small = omega (arith, is, small);
            ordered = λ i h. let e = order_own set vs n found lt c.kept_number.ensures own c.loop-number.next w.in-Some.is ge inv.ordered i h in omega (arith, e, behind);
          }
      | in_default w ↦
          let is = w.below-is in
          let behind = w.next-is in
          record {
            below_is = is ∙ inv.below_is ∙ sym (rank_none set vs n found lt c.kept_number.ensures w.in_default.is c.args.id);
            small = omega (arith, is, small);
            ordered = λ i h. let e = order_none set vs n found lt c.kept_number.ensures w.in_default.is c.loop-number.next inv.ordered i h in omega (arith, e, behind);
          }
    ]

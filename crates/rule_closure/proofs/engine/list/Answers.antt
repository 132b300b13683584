use Rattle.std.proofs.Common.{◌∙◌, ◌<◌, sym, arith, length}
use Rattle.rule_closure.proofs.Marking.{listing_adds, listing_skips}
use Rattle.rule_closure.proofs.engine.list.Goals as goal
use Rattle.rule_closure.proofs.engine.list.Goals.{then-has, else-has}

pub loop-v-preserved : goal.loop-v-preserved
loop-v-preserved c =
    let i = c.loop-v.invariant in
    let low : c.loop-v.v < length c.args.set.now = omega arith in
    elim c.if-has.branch [
      | then-has w ↦ rw (w.order-is, w.filled-is) (listing_adds c.args.set.now c.loop-v.v c.loop-v.order c.loop-v.filled i low (sym c.has.ensures ∙ w.if-has.true) (omega (arith, i.within)))
      | else-has w ↦ rw (w.order-is, w.filled-is) (listing_skips c.args.set.now c.loop-v.v c.loop-v.order c.loop-v.filled i low (sym c.has.ensures ∙ w.if-has.false))
    ]

use Rattle.std.proofs.Common.{arith, refl}
use Rattle.rule_closure.proofs.Marking.{marking_begins, marking_goes, marking_ends}
use Rattle.rule_closure.proofs.engine.close.Goals as goal

pub loop-done-init : goal.loop-done-init
loop-done-init c = marking_begins c.args.links.now c.args.set.now c.requires.twins _ _ c.list-filled.ensures

pub loop-done-preserved : goal.loop-done-preserved
loop-done-preserved c =
    let e = c.visit-filled.ensures in
    marking_goes c.args.links.now c.args.set.now c.requires.twins c.loop-done.done c.loop-done.order c.visit-filled.new.order c.loop-done.filled c.visit-filled.result c.loop-done.set c.visit-filled.new.set _ c.loop-done.invariant (omega arith) refl e.listed e.size e.more e.front e.kept e.only e.all

pub returns-clause-exact : goal.returns-clause-exact
returns-clause-exact c = marking_ends c.args.links.now c.args.set.now c.requires.twins c.loop-done.done c.loop-done.order c.loop-done.filled c.loop-done.set c.loop-done.invariant (omega arith)

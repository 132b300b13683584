use Rattle.c_meaning.specs.Activations.{executable, blank}
use Rattle.c_memory.proofs.GlobalLemmas.{item_turn, items_end}
use Rattle.c_memory.proofs.globals.Globals.new.Goals as goal

pub loop-item-preserved : goal.loop-item-preserved
loop-item-preserved c =
    item_turn c.args.p.now c.as_slice-item-items.result.now c.loop-item.item-index c.item-item.result c.begin_item.new.self.memory c.begin_item.new.self.frame
    (blank (executable c.args.p.now)) c.loop-item-test.true c.item-item.is (c.in_ok-begin_item.ensures _ c.loop-item.invariant)

pub returns-clause-memory : goal.returns-clause-memory
returns-clause-memory c = λ input.
    (items_end c.args.p.now c.as_slice-item-items.result.now c.loop-item.item-index c.loop-item.globals.memory c.loop-item.globals.frame (blank (executable c.args.p.now))
    c.as_slice-item-items.ensures c.loop-item-test.false c.loop-item.invariant).memory

pub returns-clause-frame : goal.returns-clause-frame
returns-clause-frame c = λ input.
    (items_end c.args.p.now c.as_slice-item-items.result.now c.loop-item.item-index c.loop-item.globals.memory c.loop-item.globals.frame (blank (executable c.args.p.now))
    c.as_slice-item-items.ensures c.loop-item-test.false c.loop-item.invariant).frame

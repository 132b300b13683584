use Rattle.std.proofs.Common.{[]}
use Rattle.c_language.proofs.Turns.{each_turn}
use Rattle.c_print.proofs.Loops.{each_item}
use Rattle.c_print.proofs.items.print.Goals as goal

pub loop-item-preserved : goal.loop-item-preserved
loop-item-preserved c =
    each_turn (each_item c.args.program.now) c.as_slice-item-items.result.now c.loop-item.item-index c.item-item.result [] c.loop-item.out c.item_lines.new.out
    c.loop-item-test.true c.item-item.is c.loop-item.invariant c.in_ok-item_lines.ensures

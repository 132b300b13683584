use Rattle.c_language.proofs.Turns.{each_turn}
use Rattle.c_print.proofs.Loops.{each_label}
use Rattle.c_print.proofs.statements.labels.Goals as goal

pub loop-label-preserved : goal.loop-label-preserved
loop-label-preserved c =
    each_turn (each_label c.args.program.now c.args.margin.now) c.args.all.now c.loop-label.label-index c.label-item.result c.args.out.now c.loop-label.out c.label_line.new.out
    c.loop-label-test.true c.label-item.is c.loop-label.invariant c.in_ok-label_line.ensures

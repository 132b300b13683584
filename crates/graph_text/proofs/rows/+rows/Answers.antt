use Rattle.std.proofs.Common.{◌++◌, ap, ◌∙◌}
use Rattle.c_language.proofs.Turns.{each_turn}
use Rattle.graph_text.specs.RowWalk.{body_rows}
use Rattle.graph_text.proofs.RowLemmas.{each_statement, each_arm, within_grown, if_grown, for_grown}
use Rattle.graph_text.proofs.rows.+rows.Goals as goal

pub among-loop-statement-preserved : goal.among-loop-statement-preserved
among-loop-statement-preserved t c =
    each_turn (each_statement c.args.p.now) c.args.list.now c.loop-statement.statement-index c.statement-item.result c.args.rows.now.items c.loop-statement.rows.items c.within.new.rows.items c.loop-statement-test.true c.statement-item.is c.loop-statement.invariant c.in_ok-within.ensures

pub in_arms-loop-arm-preserved : goal.in_arms-loop-arm-preserved
in_arms-loop-arm-preserved t c =
    each_turn (each_arm c.args.p.now) c.args.arms.now c.loop-arm.arm-index c.arm-item.result c.args.rows.now.items c.loop-arm.rows.items c.among.new.rows.items c.loop-arm-test.true c.arm-item.is c.loop-arm.invariant (c.in_ok-among.ensures ∙ ap (λ b. c.loop-arm.rows.items ++ body_rows c.args.p.now b) c.as_slice.ensures)

pub within-returns : goal.within-returns
within-returns t c =
    within_grown c.args.p.now c.args.statement.now c.args.rows.now.items c.push_own.new.rows.items c.inside.new.rows.items c.in_ok-push_own.ensures c.in_ok-inside.ensures

pub inside-returns-in_ok-among-in-If-2 : goal.inside-returns-in_ok-among-in-If-2
inside-returns-in_ok-among-in-If-2 t c =
    let p = c.args.p.now in
    if_grown p c.in-If.id c.in-If.line c.in-If.test c.in-If.then c.in-If.other c.args.statement.now c.args.rows.now.items c.among.new.rows.items c.among-in-If.new.rows.items c.in-If.is (c.in_ok-among-in-If.ensures ∙ ap (λ b. c.args.rows.now.items ++ body_rows p b) c.as_slice.ensures) (c.in_ok-among-in-If-2.ensures ∙ ap (λ b. c.among.new.rows.items ++ body_rows p b) c.as_slice-in-If.ensures)

pub inside-returns-in_ok-among-in-For : goal.inside-returns-in_ok-among-in-For
inside-returns-in_ok-among-in-For t c =
    let p = c.args.p.now in
    for_grown p c.in-For.id c.in-For.line c.in-For.init c.in-For.test c.in-For.step c.in-For.body c.args.statement.now c.args.rows.now.items c.in_part.new.rows.items c.in_part-in-For.new.rows.items c.among-in-For.new.rows.items c.in-For.is c.in_ok-in_part-in-For.ensures c.in_ok-in_part-in-For-2.ensures (c.in_ok-among-in-For.ensures ∙ ap (λ b. c.in_part-in-For.new.rows.items ++ body_rows p b) c.as_slice-in-For.ensures)

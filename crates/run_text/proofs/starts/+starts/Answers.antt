use Rattle.std.proofs.Common.{◌++◌, ap, ◌∙◌}
use Rattle.c_tree.specs.Numbered.{body_starts}
use Rattle.c_language.proofs.Turns.{each_turn}
use Rattle.run_text.proofs.StartLemmas.{each_statement, each_arm, within_grown, if_grown, for_grown}
use Rattle.run_text.proofs.starts.+starts.Goals as goal

pub among-loop-statement-preserved : goal.among-loop-statement-preserved
among-loop-statement-preserved t c =
    each_turn each_statement c.args.list.now c.loop-statement.statement-index c.statement-item.result c.args.found.now.items c.loop-statement.found.items c.within.new.found.items c.loop-statement-test.true c.statement-item.is c.loop-statement.invariant c.in_ok-within.ensures

pub in_arms-loop-arm-preserved : goal.in_arms-loop-arm-preserved
in_arms-loop-arm-preserved t c =
    each_turn each_arm c.args.arms.now c.loop-arm.arm-index c.arm-item.result c.args.found.now.items c.loop-arm.found.items c.among.new.found.items c.loop-arm-test.true c.arm-item.is c.loop-arm.invariant (c.in_ok-among.ensures ∙ ap (λ b. c.loop-arm.found.items ++ body_starts b) c.as_slice.ensures)

pub within-returns : goal.within-returns
within-returns t c =
    within_grown c.args.statement.now c.args.found.now.items c.push_own.new.found.items c.inside.new.found.items c.in_ok-push_own.ensures c.in_ok-inside.ensures

pub inside-returns-in_ok-among-in-If-2 : goal.inside-returns-in_ok-among-in-If-2
inside-returns-in_ok-among-in-If-2 t c =
    if_grown c.in-If.id c.in-If.line c.in-If.test c.in-If.then c.in-If.other c.args.statement.now c.args.found.now.items c.among.new.found.items c.among-in-If.new.found.items c.in-If.is (c.in_ok-among-in-If.ensures ∙ ap (λ b. c.args.found.now.items ++ body_starts b) c.as_slice.ensures) (c.in_ok-among-in-If-2.ensures ∙ ap (λ b. c.among.new.found.items ++ body_starts b) c.as_slice-in-If.ensures)

pub inside-returns-in_ok-among-in-For : goal.inside-returns-in_ok-among-in-For
inside-returns-in_ok-among-in-For t c =
    for_grown c.in-For.id c.in-For.line c.in-For.init c.in-For.test c.in-For.step c.in-For.body c.args.statement.now c.args.found.now.items c.in_part.new.found.items c.in_part-in-For.new.found.items c.among-in-For.new.found.items c.in-For.is c.in_ok-in_part-in-For.ensures c.in_ok-in_part-in-For-2.ensures (c.in_ok-among-in-For.ensures ∙ ap (λ b. c.in_part-in-For.new.found.items ++ body_starts b) c.as_slice-in-For.ensures)

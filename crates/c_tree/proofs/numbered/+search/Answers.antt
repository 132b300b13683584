use Rattle.std.proofs.Common.{◌≢◌, Some, arith}
use Rattle.std.proofs.lemmas.Grind.{common_steps}
use Rattle.c_tree.specs.Numbered.{own_id}
use Rattle.c_tree.proofs.SearchLemmas.{free_more, found_at, free_arm, found_arm, finds_inner, found_then, finds_else, found_init, found_step, finds_repeated}
use Rattle.c_tree.proofs.numbered.+search.Goals as goal

pub among-returns-in-Some : goal.among-returns-in-Some
among-returns-in-Some t c =
    found_at c.args.id c.args.list.now c.loop-statement.statement-index c.statement-item.result c.in-Some.found.now c.loop-statement-test.true c.statement-item.is c.in-Some.ensures

pub among-loop-statement-preserved : goal.among-loop-statement-preserved
among-loop-statement-preserved t c =
    free_more c.args.id c.args.list.now c.loop-statement.statement-index c.statement-item.result c.loop-statement-test.true c.statement-item.is c.loop-statement.invariant c.in_default.ensures

pub in_arms-returns-in-Some : goal.in_arms-returns-in-Some
in_arms-returns-in-Some t c =
    found_arm c.args.id c.args.arms.now c.loop-arm.arm-index c.arm-item.result c.in-Some.found.now c.as_slice.result.now c.loop-arm-test.true c.arm-item.is c.as_slice.ensures c.in-Some.ensures

pub in_arms-loop-arm-preserved : goal.in_arms-loop-arm-preserved
in_arms-loop-arm-preserved t c =
    free_arm c.args.id c.args.arms.now c.loop-arm.arm-index c.arm-item.result c.as_slice.result.now c.loop-arm-test.true c.arm-item.is c.as_slice.ensures c.loop-arm.invariant c.in_default.ensures

pub inside-returns-in-Some : goal.inside-returns-in-Some
inside-returns-in-Some t c =
    found_then c.in-If.id c.in-If.line c.in-If.test c.in-If.then c.in-If.other c.args.id c.args.statement.now c.in-Some.found.now c.as_slice.result.now c.in-If.is c.as_slice.ensures c.in-Some.ensures

pub inside-returns-in-None : goal.inside-returns-in-None
inside-returns-in-None t c =
    finds_else c.in-If.id c.in-If.line c.in-If.test c.in-If.then c.in-If.other c.args.id c.args.statement.now c.as_slice.result.now c.as_slice-in-None.result.now c.among-in-None.result c.in-If.is c.as_slice.ensures c.as_slice-in-None.ensures c.in-None.ensures c.among-in-None.ensures

pub inside-returns-in-Some-in_part : goal.inside-returns-in-Some-in_part
inside-returns-in-Some-in_part t c =
    found_init c.in-For.id c.in-For.line c.in-For.test c.in-For.init c.in-For.step c.in-For.body c.args.id c.args.statement.now c.in-Some-in_part.found.now c.in-For.is c.in-Some-in_part.ensures

pub inside-returns-in-Some-in_part-2 : goal.inside-returns-in-Some-in_part-2
inside-returns-in-Some-in_part-2 t c =
    found_step c.in-For.id c.in-For.line c.in-For.test c.in-For.init c.in-For.step c.in-For.body c.args.id c.args.statement.now c.in-Some-in_part-2.found.now c.in-For.is c.in-Some-in_part-2.ensures

pub inside-returns-in-None-in_part-2 : goal.inside-returns-in-None-in_part-2
inside-returns-in-None-in_part-2 t c =
    finds_repeated c.in-For.id c.in-For.line c.in-For.test c.in-For.init c.in-For.step c.in-For.body c.args.id c.args.statement.now c.as_slice-in-None-in_part-2.result.now c.among-in-None-in_part-2.result c.in-For.is c.as_slice-in-None-in_part-2.ensures c.in-None-in_part.ensures c.in-None-in_part-2.ensures c.among-in-None-in_part-2.ensures

pub within-returns : goal.within-returns
within-returns t c =
    let other : own_id c.args.statement.now ≢ Some c.args.id = λ e. grind (arith, common_steps, c.has_id.ensures.1 e) in
    finds_inner c.args.id c.args.statement.now c.inside.result other c.inside.ensures

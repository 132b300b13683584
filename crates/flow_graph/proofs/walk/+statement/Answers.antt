use Rattle.std.proofs.Common.{◌<◌, false, length, get_or, arith, sym, ◌∙◌}
use Rattle.std.proofs.lemmas.List.{get_or_default}
use Rattle.dep_model.specs.Groups.{row}
use Rattle.flow_graph.proofs.Turns.{arms_turn}
use Rattle.flow_graph.proofs.Forms.{block_form, block_start, if_form, while_form, do_form, do_start, for_form, switch_form}
use Rattle.flow_graph.proofs.walk.+statement.Goals as goal

pub arms-loop-i-preserved : goal.arms-loop-i-preserved
arms-loop-i-preserved t c =
    let lt : c.loop-i.i < length c.args.taken.now = omega (arith, c.requires.for_each, c.loop-i-test.true) in
    arms_turn (row c.args.own.now) c.args.test.now c.args.next c.args.taken.now c.args.list.now c.loop-i.i (get_or c.args.taken.now c.loop-i.i false) c.index-list-i.result c.args.out.now.items c.loop-i.out.items c.arm.new.out.items
    c.requires.for_each c.loop-i-test.true (sym (get_or_default c.args.taken.now c.loop-i.i _ false lt)) c.index-list-i.is c.loop-i.invariant c.in_ok-arm.ensures

pub statement-returns-in_ok-start-in-Block-clause-pairs : goal.statement-returns-in_ok-start-in-Block-clause-pairs
statement-returns-in_ok-start-in-Block-clause-pairs t c =
    block_form (row c.args.own.now) c.args.next c.args.statement.now c.in-Block.line c.in-Block.body c.as_slice.result.now c.args.out.now.items c.statements.new.out.items
    c.in-Block.is c.as_slice.ensures c.in_ok-start-in-Block.ensures.pairs

pub statement-returns-in_ok-start-in-Block-clause-start : goal.statement-returns-in_ok-start-in-Block-clause-start
statement-returns-in_ok-start-in-Block-clause-start t c =
    block_start (row c.args.own.now) c.args.next c.args.statement.now c.in-Block.line c.in-Block.body c.as_slice.result.now c.in_ok-start-in-Block.start
    c.in-Block.is c.as_slice.ensures c.in_ok-start-in-Block.ensures.start

pub statement-returns-in_ok-lead_to-in-If-2-clause-pairs : goal.statement-returns-in_ok-lead_to-in-If-2-clause-pairs
statement-returns-in_ok-lead_to-in-If-2-clause-pairs t c =
    if_form (row c.args.own.now) c.args.next c.args.statement.now c.in-If.id c.in-If.line c.in-If.test c.in-If.then c.in-If.other c.as_slice-in-If.result.now c.as_slice-in-If-2.result.now c.row-test.result.now c.args.out.now.items c.lead_to.new.out.items c.lead_to-in-If.new.out.items
    c.in-If.is c.row-test.ensures c.as_slice-in-If.ensures c.as_slice-in-If-2.ensures c.in_ok-lead_to-in-If.ensures.pairs c.in_ok-lead_to-in-If-2.ensures.pairs

pub statement-returns-in_ok-pass_by-in-Switch-clause-pairs : goal.statement-returns-in_ok-pass_by-in-Switch-clause-pairs
statement-returns-in_ok-pass_by-in-Switch-clause-pairs t c =
    switch_form (row c.args.own.now) c.args.next c.args.statement.now c.in-Switch.id c.in-Switch.line c.in-Switch.test c.in-Switch.list c.as_slice-in-Switch.result.now c.as_slice-in-Switch-2.result.now c.as_slice-in-Switch-4.result.now c.row-test-in-Switch.result.now c.as_slice-in-Switch-3.result.now c.has_default.result c.args.out.now.items c.arms.new.out.items c.pass_by.new.out.items
    c.in-Switch.is c.row-test-in-Switch.ensures (c.as_slice-in-Switch-3.ensures.value ∙ c.in_ok-taken-in-Switch.ensures.taken) c.as_slice-in-Switch.ensures c.as_slice-in-Switch-2.ensures c.as_slice-in-Switch-4.ensures c.has_default.ensures c.in_ok-arms-in-Switch.ensures c.in_ok-pass_by-in-Switch.ensures

pub statement-returns-in_ok-link-in-While-clause-pairs : goal.statement-returns-in_ok-link-in-While-clause-pairs
statement-returns-in_ok-link-in-While-clause-pairs t c =
    while_form (row c.args.own.now) c.args.next c.args.statement.now c.in-While.id c.in-While.line c.in-While.test c.in-While.body c.as_slice-in-While.result.now c.row-test-in-While.result.now c.entered-again.result c.args.out.now.items c.lead_to-in-While.new.out.items c.link.new.out.items
    c.in-While.is c.row-test-in-While.ensures c.as_slice-in-While.ensures c.entered-again.ensures c.in_ok-lead_to-in-While.ensures.pairs c.in_ok-link-in-While.ensures

pub statement-returns-in_ok-link-in-Do-clause-pairs : goal.statement-returns-in_ok-link-in-Do-clause-pairs
statement-returns-in_ok-link-in-Do-clause-pairs t c =
    do_form (row c.args.own.now) c.args.next c.args.statement.now c.in-Do.id c.in-Do.line c.in-Do.test c.in-Do.body c.as_slice-in-Do.result.now c.row-test-in-Do.result.now c.entered-in-Do.result c.args.out.now.items c.lead_to-in-Do.new.out.items c.link-in-Do.new.out.items
    c.in-Do.is c.row-test-in-Do.ensures c.as_slice-in-Do.ensures c.entered-in-Do.ensures c.in_ok-start-in-Do.ensures.pairs c.in_ok-link-in-Do.ensures

pub statement-returns-in_ok-link-in-Do-clause-start : goal.statement-returns-in_ok-link-in-Do-clause-start
statement-returns-in_ok-link-in-Do-clause-start t c =
    do_start (row c.args.own.now) c.args.next c.args.statement.now c.in-Do.id c.in-Do.line c.in-Do.test c.in-Do.body c.as_slice-in-Do.result.now c.row-test-in-Do.result.now c.entered-in-Do.result c.in_ok-start-in-Do.start
    c.in-Do.is c.row-test-in-Do.ensures c.as_slice-in-Do.ensures c.entered-in-Do.ensures c.in_ok-start-in-Do.ensures.start

pub statement-returns-in_ok-start-in-For-clause-pairs : goal.statement-returns-in_ok-start-in-For-clause-pairs
statement-returns-in_ok-start-in-For-clause-pairs t c =
    for_form (row c.args.own.now) c.args.next c.args.statement.now c.in-For.id c.in-For.line c.in-For.init c.in-For.test c.in-For.step c.in-For.body c.as_slice-in-For.result.now c.row-test-in-For.result.now c.entered-again-in-For.result c.in_ok-after-in-For.after c.args.out.now.items c.part.new.out.items c.lead_to-in-For.new.out.items c.link-in-For.new.out.items c.part-in-For.new.out.items
    c.in-For.is c.row-test-in-For.ensures c.as_slice-in-For.ensures c.entered-again-in-For.ensures c.in_ok-after-in-For.ensures.start c.in_ok-after-in-For.ensures.pairs c.in_ok-lead_to-in-For.ensures.pairs c.in_ok-link-in-For.ensures c.in_ok-start-in-For.ensures.pairs

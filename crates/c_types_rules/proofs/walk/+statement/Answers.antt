use Rattle.std.proofs.Common.{drop, ◌+◌, Ok, Err, refl}
use Rattle.c_language.specs.Phrases as phrases
use Rattle.c_types_checks.specs.Stands.{stand_of}
use Rattle.c_types_base.specs.Stretches.{then_comes, of_statement, of_statements, of_arms}
use Rattle.c_types_rules.specs.Walks.{Walks}
use Rattle.c_types_rules.proofs.StatementSteps.{arm_walks, declare_walks, block_walks, while_walks, do_walks, fork_walks, yes_stops, no_walks, init_stops, test_stops, step_stops, for_parts_walk, for_stops, for_returns, head_stops, arms_walk}
use Rattle.c_types_base.proofs.Stretching.{statements_grow, arms_grow, statements_here, arms_here, of_arm}
use Rattle.c_types_rules.proofs.WalkSteps.{left_same, turn, stops, encloses, passes_on}
use Rattle.c_types_rules.proofs.walk.+statement.Goals as goal

pub statements-returns-in_err-statement : goal.statements-returns-in_err-statement
statements-returns-in_err-statement t c =
    let stand = stand_of c.args.stand in
    let whole = of_statements stand c.args.list.now in
    let rest = of_statements stand (drop (c.loop-child.child-index + 1) c.args.list.now) in
    passes_on (Walks whole c.args.tables.now c.statement.new.tables) c.in_err-statement.field-0.0 c.from_residual.result c.from_residual.ensures.1
    (stops whole c.args.tables.now c.loop-child.tables (of_statement stand c.child-item.result) rest
    (left_same whole c.args.tables.now c.loop-child.tables (of_statements stand (drop c.loop-child.child-index c.args.list.now)) (then_comes (of_statement stand c.child-item.result) rest)
    (statements_here stand c.args.list.now c.loop-child.child-index c.child-item.result c.args.tables.now.raw.now c.loop-child-test.true c.child-item.is) c.loop-child.invariant)
    c.statement.new.tables c.in_err-statement.field-0.0 c.in_err-statement.ensures)

pub statements-loop-child-preserved : goal.statements-loop-child-preserved
statements-loop-child-preserved t c =
    let stand = stand_of c.args.stand in
    let whole = of_statements stand c.args.list.now in
    let rest = of_statements stand (drop (c.loop-child.child-index + 1) c.args.list.now) in
    turn whole c.args.tables.now c.loop-child.tables (of_statement stand c.child-item.result) rest
    (left_same whole c.args.tables.now c.loop-child.tables (of_statements stand (drop c.loop-child.child-index c.args.list.now)) (then_comes (of_statement stand c.child-item.result) rest)
    (statements_here stand c.args.list.now c.loop-child.child-index c.child-item.result c.args.tables.now.raw.now c.loop-child-test.true c.child-item.is) c.loop-child.invariant)
    c.statement.new.tables c.in_ok-statement.ensures

pub arms-returns-in_err-statements : goal.arms-returns-in_err-statements
arms-returns-in_err-statements t c =
    let whole = of_arms c.args.list.now in
    let rest = of_arms (drop (c.loop-arm.arm-index + 1) c.args.list.now) in
    passes_on (Walks whole c.args.tables.now c.statements.new.tables) c.in_err-statements.field-0.0 c.from_residual.result c.from_residual.ensures.1
    (stops whole c.args.tables.now c.loop-arm.tables (of_arm c.arm-item.result) rest
    (left_same whole c.args.tables.now c.loop-arm.tables (of_arms (drop c.loop-arm.arm-index c.args.list.now)) (then_comes (of_arm c.arm-item.result) rest)
    (arms_here c.args.list.now c.loop-arm.arm-index c.arm-item.result c.args.tables.now.raw.now c.loop-arm-test.true c.arm-item.is) c.loop-arm.invariant)
    c.statements.new.tables c.in_err-statements.field-0.0
    (arm_walks c.arm-item.result c.as_slice.result.now c.loop-arm.tables c.statements.new.tables (Err c.in_err-statements.field-0.0) c.as_slice.ensures c.in_err-statements.ensures))

pub arms-loop-arm-preserved : goal.arms-loop-arm-preserved
arms-loop-arm-preserved t c =
    let whole = of_arms c.args.list.now in
    let rest = of_arms (drop (c.loop-arm.arm-index + 1) c.args.list.now) in
    turn whole c.args.tables.now c.loop-arm.tables (of_arm c.arm-item.result) rest
    (left_same whole c.args.tables.now c.loop-arm.tables (of_arms (drop c.loop-arm.arm-index c.args.list.now)) (then_comes (of_arm c.arm-item.result) rest)
    (arms_here c.args.list.now c.loop-arm.arm-index c.arm-item.result c.args.tables.now.raw.now c.loop-arm-test.true c.arm-item.is) c.loop-arm.invariant)
    c.statements.new.tables
    (arm_walks c.arm-item.result c.as_slice.result.now c.loop-arm.tables c.statements.new.tables (Ok tt) c.as_slice.ensures c.in_ok-statements.ensures)

pub block-returns : goal.block-returns
block-returns t c =
    encloses (of_statements phrases.InBlock c.args.list.now) c.args.tables.now c.open.new.self c.statements.new.tables c.close.new.self c.before-outside.result
    (λ raw. statements_grow raw phrases.InBlock c.args.list.now) c.before-outside.ensures.names c.before-outside.ensures.outer c.before-outside.ensures.owner
    c.open.ensures c.in_ok-statements.ensures c.close.ensures

pub arms_block-returns : goal.arms_block-returns
arms_block-returns t c =
    encloses (of_arms c.args.list.now) c.args.tables.now c.open.new.self c.arms.new.tables c.close.new.self c.before-outside.result
    (λ raw. arms_grow raw c.args.list.now) c.before-outside.ensures.names c.before-outside.ensures.outer c.before-outside.ensures.owner
    c.open.ensures c.in_ok-arms.ensures c.close.ensures

pub statement-returns-in-Declare : goal.statement-returns-in-Declare
statement-returns-in-Declare t c =
    declare_walks c.args.tables.now (stand_of c.args.stand) c.args.statement.now c.declared.new.tables c.declared.result c.in-Declare.line c.in-Declare.var c.in-Declare.init c.in-Declare.is c.declared.ensures

pub statement-returns-in_err-block-in-If : goal.statement-returns-in_err-block-in-If
statement-returns-in_err-block-in-If t c =
    passes_on (Walks (of_statement (stand_of c.args.stand) c.args.statement.now) c.args.tables.now c.block.new.tables) c.in_err-block-in-If.field-0.0 c.from_residual-in_err-block-in-If.result c.from_residual-in_err-block-in-If.ensures.1
    (fork_walks c.args.tables.now (stand_of c.args.stand) c.args.statement.now c.block.new.tables (Err c.in_err-block-in-If.field-0.0) c.in-If.line c.in-If.test c.in-If.then c.in-If.other c.as_slice-in-If.result.now c.in-If.other
    c.in-If.is c.as_slice-in-If.ensures refl
    (yes_stops c.in-If.line c.in-If.test c.as_slice-in-If.result.now c.in-If.other c.args.tables.now c.tested.new.tables c.in_ok-tested-in-If.ensures c.block.new.tables c.in_err-block-in-If.field-0.0 c.in_err-block-in-If.ensures))

pub statement-returns-in_ok-block-in-If : goal.statement-returns-in_ok-block-in-If
statement-returns-in_ok-block-in-If t c =
    fork_walks c.args.tables.now (stand_of c.args.stand) c.args.statement.now c.block-in-If.new.tables c.block-in-If.result c.in-If.line c.in-If.test c.in-If.then c.in-If.other c.as_slice-in-If.result.now c.as_slice-in-If-2.result.now
    c.in-If.is c.as_slice-in-If.ensures c.as_slice-in-If-2.ensures
    (no_walks c.in-If.line c.in-If.test c.as_slice-in-If.result.now c.as_slice-in-If-2.result.now c.args.tables.now c.tested.new.tables c.in_ok-tested-in-If.ensures c.block.new.tables c.block-in-If.new.tables c.block-in-If.result
    c.in_ok-block-in-If.ensures c.block-in-If.ensures)

pub statement-returns-in_ok-tested-in-While : goal.statement-returns-in_ok-tested-in-While
statement-returns-in_ok-tested-in-While t c =
    while_walks c.args.tables.now (stand_of c.args.stand) c.args.statement.now c.block-in-While.new.tables c.block-in-While.result c.in-While.line c.in-While.test c.in-While.body c.as_slice-in-While.result.now c.as_slice-in-While.ensures
    c.tested-in-While.new.tables c.in_ok-tested-in-While.ensures c.block-in-While.ensures c.in-While.is

pub statement-returns-in_ok-tested-in-Do : goal.statement-returns-in_ok-tested-in-Do
statement-returns-in_ok-tested-in-Do t c =
    do_walks c.args.tables.now (stand_of c.args.stand) c.args.statement.now c.block-in-Do.new.tables c.block-in-Do.result c.in-Do.line c.in-Do.test c.in-Do.body c.as_slice-in-Do.result.now c.as_slice-in-Do.ensures
    c.tested-in-Do.new.tables c.in_ok-tested-in-Do.ensures c.block-in-Do.ensures c.in-Do.is

pub statement-returns-in_err-part-in-For : goal.statement-returns-in_err-part-in-For
statement-returns-in_err-part-in-For t c =
    passes_on (Walks (of_statement (stand_of c.args.stand) c.args.statement.now) c.args.tables.now c.part.new.tables) c.in_err-part-in-For.field-0.0 c.from_residual-in_err-part-in-For.result c.from_residual-in_err-part-in-For.ensures.1
    (for_stops (stand_of c.args.stand) c.args.statement.now c.in-For.line c.in-For.init c.in-For.test c.in-For.step c.in-For.body c.in-For.body c.in-For.is refl c.args.tables.now c.number.new.self c.open.new.self c.in_ok-number-in-For.ensures.at c.open.ensures c.part.new.tables c.in_err-part-in-For.field-0.0
    (init_stops c.in-For.line c.in-For.init c.in-For.test c.in-For.step c.in-For.body c.open.new.self (c.open.ensures.right (c.in_ok-number-in-For.ensures.at.right c.requires)) c.part.new.tables c.in_err-part-in-For.field-0.0 c.in_err-part-in-For.ensures))

pub statement-returns-in_err-on_line-in-For : goal.statement-returns-in_err-on_line-in-For
statement-returns-in_err-on_line-in-For t c =
    passes_on (Walks (of_statement (stand_of c.args.stand) c.args.statement.now) c.args.tables.now c.part.new.tables) c.in_err-on_line-in-For.field-0.0 c.from_residual-in_err-on_line-in-For.result c.from_residual-in_err-on_line-in-For.ensures.1
    (for_stops (stand_of c.args.stand) c.args.statement.now c.in-For.line c.in-For.init c.in-For.test c.in-For.step c.in-For.body c.in-For.body c.in-For.is refl c.args.tables.now c.number.new.self c.open.new.self c.in_ok-number-in-For.ensures.at c.open.ensures c.part.new.tables c.in_err-on_line-in-For.field-0.0
    (test_stops c.in-For.line c.in-For.init c.in-For.test c.in-For.step c.in-For.body c.open.new.self (c.open.ensures.right (c.in_ok-number-in-For.ensures.at.right c.requires)) c.part.new.tables c.in_ok-part-in-For.ensures c.check_test.result c.check_test.ensures c.in_err-on_line-in-For.field-0.0 c.in_err-on_line-in-For.ensures))

pub statement-returns-in_err-part-in-For-2 : goal.statement-returns-in_err-part-in-For-2
statement-returns-in_err-part-in-For-2 t c =
    passes_on (Walks (of_statement (stand_of c.args.stand) c.args.statement.now) c.args.tables.now c.part-in-For.new.tables) c.in_err-part-in-For-2.field-0.0 c.from_residual-in_err-part-in-For-2.result c.from_residual-in_err-part-in-For-2.ensures.1
    (for_stops (stand_of c.args.stand) c.args.statement.now c.in-For.line c.in-For.init c.in-For.test c.in-For.step c.in-For.body c.in-For.body c.in-For.is refl c.args.tables.now c.number.new.self c.open.new.self c.in_ok-number-in-For.ensures.at c.open.ensures c.part-in-For.new.tables c.in_err-part-in-For-2.field-0.0
    (step_stops c.in-For.line c.in-For.init c.in-For.test c.in-For.step c.in-For.body c.open.new.self (c.open.ensures.right (c.in_ok-number-in-For.ensures.at.right c.requires)) c.part.new.tables c.in_ok-part-in-For.ensures c.check_test.result c.check_test.ensures c.in_ok-on_line-in-For.ensures
    c.part-in-For.new.tables c.in_err-part-in-For-2.field-0.0 c.in_err-part-in-For-2.ensures))

pub statement-returns-in_err-block-in-For : goal.statement-returns-in_err-block-in-For
statement-returns-in_err-block-in-For t c =
    passes_on (Walks (of_statement (stand_of c.args.stand) c.args.statement.now) c.args.tables.now c.block-in-For.new.tables) c.in_err-block-in-For.field-0.0 c.from_residual-in_err-block-in-For.result c.from_residual-in_err-block-in-For.ensures.1
    (for_stops (stand_of c.args.stand) c.args.statement.now c.in-For.line c.in-For.init c.in-For.test c.in-For.step c.in-For.body c.as_slice-in-For.result.now c.in-For.is c.as_slice-in-For.ensures c.args.tables.now c.number.new.self c.open.new.self c.in_ok-number-in-For.ensures.at c.open.ensures c.block-in-For.new.tables c.in_err-block-in-For.field-0.0
    (for_parts_walk c.in-For.line c.in-For.init c.in-For.test c.in-For.step c.as_slice-in-For.result.now c.open.new.self (c.open.ensures.right (c.in_ok-number-in-For.ensures.at.right c.requires)) c.part.new.tables c.in_ok-part-in-For.ensures c.check_test.result c.check_test.ensures c.in_ok-on_line-in-For.ensures
    c.part-in-For.new.tables c.in_ok-part-in-For-2.ensures c.block-in-For.new.tables (Err c.in_err-block-in-For.field-0.0) c.in_err-block-in-For.ensures))

pub statement-returns-in_ok-block-in-For : goal.statement-returns-in_ok-block-in-For
statement-returns-in_ok-block-in-For t c =
    for_returns (stand_of c.args.stand) c.args.statement.now c.in-For.line c.in-For.init c.in-For.test c.in-For.step c.in-For.body c.as_slice-in-For.result.now c.in-For.is c.as_slice-in-For.ensures c.args.tables.now c.number.new.self c.open.new.self c.in_ok-number-in-For.ensures.at c.open.ensures
    c.block-in-For.new.tables c.close.new.self c.before-outside.result c.before-outside.ensures.names c.before-outside.ensures.outer c.before-outside.ensures.owner
    (for_parts_walk c.in-For.line c.in-For.init c.in-For.test c.in-For.step c.as_slice-in-For.result.now c.open.new.self (c.open.ensures.right (c.in_ok-number-in-For.ensures.at.right c.requires)) c.part.new.tables c.in_ok-part-in-For.ensures c.check_test.result c.check_test.ensures c.in_ok-on_line-in-For.ensures
    c.part-in-For.new.tables c.in_ok-part-in-For-2.ensures c.block-in-For.new.tables (Ok tt) c.in_ok-block-in-For.ensures)
    c.close.ensures

pub statement-returns-in-Block : goal.statement-returns-in-Block
statement-returns-in-Block t c =
    block_walks c.args.tables.now (stand_of c.args.stand) c.args.statement.now c.block-in-Block.new.tables c.block-in-Block.result c.in-Block.line c.in-Block.body c.as_slice-in-Block.result.now
    c.in-Block.is c.as_slice-in-Block.ensures c.block-in-Block.ensures

pub statement-returns-in_err-switch_head-in-Switch : goal.statement-returns-in_err-switch_head-in-Switch
statement-returns-in_err-switch_head-in-Switch t c =
    passes_on (Walks (of_statement (stand_of c.args.stand) c.args.statement.now) c.args.tables.now c.switch_head.new.tables) c.in_err-switch_head-in-Switch.field-0.0 c.from_residual-in_err-switch_head-in-Switch.result c.from_residual-in_err-switch_head-in-Switch.ensures.1
    (head_stops (stand_of c.args.stand) c.args.statement.now c.in-Switch.line c.in-Switch.test c.in-Switch.arms c.in-Switch.is c.args.tables.now c.as_slice-in-Switch.result.now c.as_slice-in-Switch.ensures
    c.switch_head.new.tables c.in_err-switch_head-in-Switch.field-0.0 c.in_err-switch_head-in-Switch.ensures)

pub statement-returns-in_ok-switch_head-in-Switch : goal.statement-returns-in_ok-switch_head-in-Switch
statement-returns-in_ok-switch_head-in-Switch t c =
    arms_walk (stand_of c.args.stand) c.args.statement.now c.in-Switch.line c.in-Switch.test c.in-Switch.arms c.in-Switch.is c.args.tables.now c.as_slice-in-Switch.result.now c.as_slice-in-Switch-2.result.now
    c.as_slice-in-Switch.ensures c.as_slice-in-Switch-2.ensures c.switch_head.new.tables c.arms_block.new.tables c.arms_block.result c.in_ok-switch_head-in-Switch.ensures c.arms_block.ensures

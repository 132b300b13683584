use Rattle.std.proofs.Common.{◌≡◌, Some, map, arith, refl, sym, ap, subst}
use Rattle.c_language.specs.Phrases.{labels_of, phrases_of_arms}
use Rattle.c_language.specs.ProgramOf.{collected, label_tree}
use Rattle.c_types_base.specs.Tables.{scope_of}
use Rattle.c_types_trees.specs.FitPhrases.{AreFit}
use Rattle.c_types_program.specs.Statements.{HaveTrees, PassesAll, AreLabels, arm_texts, HaveArms, PassesArms}
use Rattle.c_types_program.proofs.Sizes.{size, arm_size, arms_size, one_within}
use Rattle.c_types_program.proofs.Turns.{turn_fits, turn, all_made, next_turn, last_turn, pushed, arm_turn_fits, arm_turn_labels, arm_turn, arms_made, next_arm_turn, last_arm_turn, arm_pushed}
use Rattle.c_types_program.proofs.Passing.{block_passes, while_tree, do_tree, if_first, if_second, if_tree, if_passes}
use Rattle.c_types_program.proofs.PassingLoops.{for_init, for_test, for_right, for_step, for_body_right, for_body, for_has, for_passes, switch_test, switch_right, switch_arms, switch_labels, switch_has, switch_passes, arm_has, arm_passes}
use Rattle.c_types_program.proofs.walk.Walk.+statement.Goals as goal

pub statements-statement-requires : goal.statements-statement-requires
statements-statement-requires t c =
    let w = one_within size c.args.list.now c.loop-statement.statement-index c.statement-item.result c.loop-statement-test.true c.statement-item.is in
    let go = next_turn c.args.list.now c.loop-statement.statement-index c.statement-item.result c.loop-statement-test.true c.statement-item.is c.loop-statement.invariant in
    (omega (arith, w), (go.stands.right, turn_fits go))

pub statements-loop-statement-preserved : goal.statements-loop-statement-preserved
statements-loop-statement-preserved t c =
    let go = next_turn c.args.list.now c.loop-statement.statement-index c.statement-item.result c.loop-statement-test.true c.statement-item.is c.loop-statement.invariant in
    pushed (turn go c.statement.new.self c.in_ok-tree.tree c.in_ok-tree.ensures.tree c.in_ok-tree.ensures.passes) c.in_ok-push.ensures.ok

pub statements-returns-clause-tree : goal.statements-returns-clause-tree
statements-returns-clause-tree t c = all_made (last_turn c.args.list.now c.loop-statement.statement-index c.loop-statement-test.false c.loop-statement.invariant)

pub arms-arm-requires : goal.arms-arm-requires
arms-arm-requires t c =
    let w = one_within arm_size c.args.list.now c.loop-arm.arm-index c.arm-item.result c.loop-arm-test.true c.arm-item.is in
    let go = next_arm_turn c.args.list.now c.loop-arm.arm-index c.arm-item.result c.loop-arm-test.true c.arm-item.is c.loop-arm.invariant in
    (omega (arith, w), (go.stands.right, (arm_turn_fits go, arm_turn_labels go)))

pub arms-loop-arm-preserved : goal.arms-loop-arm-preserved
arms-loop-arm-preserved t c =
    let go = next_arm_turn c.args.list.now c.loop-arm.arm-index c.arm-item.result c.loop-arm-test.true c.arm-item.is c.loop-arm.invariant in
    arm_pushed (arm_turn go c.arm.new.self c.in_ok-tree.tree c.in_ok-tree.ensures.tree c.in_ok-tree.ensures.passes) c.in_ok-push.ensures.ok

pub arms-returns-clause-tree : goal.arms-returns-clause-tree
arms-returns-clause-tree t c = arms_made (last_arm_turn c.args.list.now c.loop-arm.arm-index c.loop-arm-test.false c.loop-arm.invariant)

pub arm-returns-clause-tree : goal.arm-returns-clause-tree
arm-returns-clause-tree t c = arm_has c.args.self.now c.args.arm.now c.args.t c.in_ok-labels.labels c.in_ok-body.body (subst (λ ls. collected (map (label_tree c.args.self.now.tables.raw.now (scope_of c.args.self.now.tables) c.args.t) ls) ≡ Some c.in_ok-labels.labels) c.as_slice.ensures c.in_ok-labels.ensures) (subst (λ b. HaveTrees c.args.self.now b c.in_ok-body.body) c.as_slice-2.ensures c.in_ok-body.ensures.tree)

pub arm-returns-clause-passes : goal.arm-returns-clause-passes
arm-returns-clause-passes t c = arm_passes c.args.self.now c.args.arm.now c.statements.new.self (subst (PassesAll c.args.self.now c.statements.new.self) c.as_slice-2.ensures c.in_ok-body.ensures.passes)

pub block-returns-clause-passes : goal.block-returns-clause-passes
block-returns-clause-passes t c = block_passes c.args.self.now c.requires.right c.args.body.now (record c.args.self.now { tables = c.open.new.self }) c.statements.new.self (record c.statements.new.self { tables = c.close.new.self }) c.before-outside.result.names c.before-outside.result.outer c.before-outside.result.owner
    c.before-outside.ensures.names c.before-outside.ensures.outer c.before-outside.ensures.owner c.open.ensures refl (subst (PassesAll (record c.args.self.now { tables = c.open.new.self }) c.statements.new.self) c.as_slice.ensures c.in_ok-made.ensures.passes) c.close.ensures refl

pub conditional-block-requires : goal.conditional-block-requires
conditional-block-requires t c = (omega arith, (c.in_ok-id.ensures.at.right c.requires.right, if_first c.args.self.now c.requires.right c.args.line c.args.test.now c.args.chosen.now c.args.other.now (record c.args.self.now { tables = c.number.new.self }) c.in_ok-id.ensures.at c.requires.fits))

pub conditional-block-requires-2 : goal.conditional-block-requires-2
conditional-block-requires-2 t c = (omega arith, (c.in_ok-then.ensures.passes.arrives.right (c.in_ok-id.ensures.at.right c.requires.right), if_second c.args.self.now c.requires.right c.args.line c.args.test.now c.args.chosen.now c.args.other.now (record c.args.self.now { tables = c.number.new.self }) c.in_ok-id.ensures.at c.block.new.self c.in_ok-then.ensures.passes c.requires.fits))

pub conditional-returns-clause-tree : goal.conditional-returns-clause-tree
conditional-returns-clause-tree t c = if_tree c.args.self.now c.requires.right c.args.line c.args.test.now c.args.chosen.now c.args.other.now (record c.args.self.now { tables = c.number.new.self }) c.in_ok-id.ensures.at c.block.new.self c.in_ok-then.ensures.passes c.in_ok-id.id c.in_ok-test.test c.in_ok-then.then c.in_ok-other.other c.in_ok-id.ensures.id c.in_ok-test.ensures c.in_ok-then.ensures.tree c.in_ok-other.ensures.tree

pub conditional-returns-clause-passes : goal.conditional-returns-clause-passes
conditional-returns-clause-passes t c = if_passes c.args.self.now c.requires.right c.args.line c.args.test.now c.args.chosen.now c.args.other.now (record c.args.self.now { tables = c.number.new.self }) c.in_ok-id.ensures.at c.block.new.self c.in_ok-then.ensures.passes c.block-2.new.self refl c.in_ok-other.ensures.passes

pub while_loop-returns-clause-tree : goal.while_loop-returns-clause-tree
while_loop-returns-clause-tree t c = while_tree c.args.self.now c.requires.right c.args.body.now c.args.line c.args.test.now (record c.args.self.now { tables = c.number.new.self }) c.in_ok-id.ensures.at c.in_ok-id.id c.in_ok-test.test c.in_ok-body.body c.in_ok-id.ensures.id c.in_ok-test.ensures c.in_ok-body.ensures.tree

pub do_loop-returns-clause-tree : goal.do_loop-returns-clause-tree
do_loop-returns-clause-tree t c = do_tree c.args.self.now c.requires.right c.args.body.now c.args.line c.args.test.now (record c.args.self.now { tables = c.number.new.self }) c.in_ok-id.ensures.at c.in_ok-id.id c.in_ok-test.test c.in_ok-body.body c.in_ok-id.ensures.id c.in_ok-test.ensures c.in_ok-body.ensures.tree

pub for_loop-part-requires : goal.for_loop-part-requires
for_loop-part-requires t c = (omega arith, (c.open.ensures.right (c.in_ok-id.ensures.at.right c.requires.right), for_init c.args.self.now c.requires.right c.args.line c.args.init.now c.args.test.now c.args.step.now c.args.body.now (record c.args.self.now { tables = c.number.new.self }) (record c.args.self.now { tables = c.open.new.self }) c.in_ok-id.ensures.at c.open.ensures c.requires.fits))

pub for_loop-test_tree-requires-clause-kept : goal.for_loop-test_tree-requires-clause-kept
for_loop-test_tree-requires-clause-kept t c = for_test c.args.self.now c.requires.right c.args.line c.args.init.now c.args.test.now c.args.step.now c.args.body.now (record c.args.self.now { tables = c.number.new.self }) (record c.args.self.now { tables = c.open.new.self }) c.in_ok-id.ensures.at c.open.ensures c.part.new.self c.in_ok-init.ensures.passes c.requires.fits

pub for_loop-part-requires-2 : goal.for_loop-part-requires-2
for_loop-part-requires-2 t c = (omega arith, (for_right c.args.self.now c.requires.right c.args.line c.args.init.now c.args.test.now c.args.step.now c.args.body.now (record c.args.self.now { tables = c.number.new.self }) (record c.args.self.now { tables = c.open.new.self }) c.in_ok-id.ensures.at c.open.ensures c.part.new.self c.in_ok-init.ensures.passes, for_step c.args.self.now c.requires.right c.args.line c.args.init.now c.args.test.now c.args.step.now c.args.body.now (record c.args.self.now { tables = c.number.new.self }) (record c.args.self.now { tables = c.open.new.self }) c.in_ok-id.ensures.at c.open.ensures c.part.new.self c.in_ok-init.ensures.passes c.requires.fits))

pub for_loop-block-requires : goal.for_loop-block-requires
for_loop-block-requires t c = (omega arith, (for_body_right c.args.self.now c.requires.right c.args.line c.args.init.now c.args.test.now c.args.step.now c.args.body.now (record c.args.self.now { tables = c.number.new.self }) (record c.args.self.now { tables = c.open.new.self }) c.in_ok-id.ensures.at c.open.ensures c.part.new.self c.in_ok-init.ensures.passes c.part-2.new.self c.in_ok-step.ensures.passes, for_body c.args.self.now c.requires.right c.args.line c.args.init.now c.args.test.now c.args.step.now c.args.body.now (record c.args.self.now { tables = c.number.new.self }) (record c.args.self.now { tables = c.open.new.self }) c.in_ok-id.ensures.at c.open.ensures c.part.new.self c.in_ok-init.ensures.passes c.part-2.new.self c.in_ok-step.ensures.passes c.requires.fits))

pub for_loop-returns-clause-tree : goal.for_loop-returns-clause-tree
for_loop-returns-clause-tree t c = for_has c.args.self.now c.requires.right c.args.line c.args.init.now c.args.test.now c.args.step.now c.args.body.now (record c.args.self.now { tables = c.number.new.self }) (record c.args.self.now { tables = c.open.new.self }) c.in_ok-id.ensures.at c.open.ensures c.part.new.self c.in_ok-init.ensures.passes c.part-2.new.self c.in_ok-step.ensures.passes c.in_ok-id.id c.in_ok-init.init c.in_ok-test.test c.in_ok-step.step c.in_ok-body.body c.in_ok-id.ensures.id c.in_ok-init.ensures.tree c.in_ok-test.ensures c.in_ok-step.ensures.tree c.in_ok-body.ensures.tree

pub for_loop-returns-clause-passes : goal.for_loop-returns-clause-passes
for_loop-returns-clause-passes t c = for_passes c.args.self.now c.requires.right c.args.line c.args.init.now c.args.test.now c.args.step.now c.args.body.now (record c.args.self.now { tables = c.number.new.self }) (record c.args.self.now { tables = c.open.new.self }) c.in_ok-id.ensures.at c.open.ensures c.part.new.self c.in_ok-init.ensures.passes c.part-2.new.self c.in_ok-step.ensures.passes c.block.new.self (record c.block.new.self { tables = c.close.new.self }) c.before-outside.result.names c.before-outside.result.outer c.before-outside.result.owner c.before-outside.ensures.names c.before-outside.ensures.outer c.before-outside.ensures.owner refl c.in_ok-body.ensures.passes c.close.ensures refl

pub switch-switch_tree-requires-clause-kept : goal.switch-switch_tree-requires-clause-kept
switch-switch_tree-requires-clause-kept t c = switch_test c.args.self.now c.requires.right c.args.line c.args.test.now c.args.arms.now c.requires.fits

pub switch-arms-requires : goal.switch-arms-requires
switch-arms-requires t c = (let n = ap arms_size c.as_slice.ensures in omega (arith, n), (switch_right c.args.self.now c.requires.right c.args.line c.args.test.now c.args.arms.now (record c.args.self.now { tables = c.number.new.self }) (record c.args.self.now { tables = c.open.new.self }) c.in_ok-id.ensures.at c.open.ensures, (subst (λ xs. AreFit (record c.args.self.now { tables = c.open.new.self }).tables.raw.now (phrases_of_arms (arm_texts (record c.args.self.now { tables = c.open.new.self }) xs))) (sym c.as_slice.ensures) (switch_arms c.args.self.now c.requires.right c.args.line c.args.test.now c.args.arms.now (record c.args.self.now { tables = c.number.new.self }) (record c.args.self.now { tables = c.open.new.self }) c.in_ok-id.ensures.at c.open.ensures c.requires.fits), subst (λ xs. AreLabels (record c.args.self.now { tables = c.open.new.self }).tables.raw.now (labels_of (arm_texts (record c.args.self.now { tables = c.open.new.self }) xs))) (sym c.as_slice.ensures) (switch_labels c.args.self.now c.requires.right c.args.line c.args.test.now c.args.arms.now (record c.args.self.now { tables = c.number.new.self }) (record c.args.self.now { tables = c.open.new.self }) c.in_ok-id.ensures.at c.open.ensures c.requires.fits))))

pub switch-returns-clause-tree : goal.switch-returns-clause-tree
switch-returns-clause-tree t c = switch_has c.args.self.now c.requires.right c.args.line c.args.test.now c.args.arms.now (record c.args.self.now { tables = c.number.new.self }) (record c.args.self.now { tables = c.open.new.self }) c.in_ok-id.ensures.at c.open.ensures c.in_ok-id.id c.in_ok-made.made.0 c.in_ok-made.made.1 c.in_ok-arms.arms c.in_ok-id.ensures.id c.in_ok-made.ensures.tree c.in_ok-made.ensures.promoted (subst (λ xs. HaveArms (record c.args.self.now { tables = c.open.new.self }) c.in_ok-made.made.1 xs c.in_ok-arms.arms) c.as_slice.ensures c.in_ok-arms.ensures.tree)

pub switch-returns-clause-passes : goal.switch-returns-clause-passes
switch-returns-clause-passes t c = switch_passes c.args.self.now c.requires.right c.args.line c.args.test.now c.args.arms.now (record c.args.self.now { tables = c.number.new.self }) (record c.args.self.now { tables = c.open.new.self }) c.in_ok-id.ensures.at c.open.ensures c.arms.new.self (record c.arms.new.self { tables = c.close.new.self }) c.before-outside.result.names c.before-outside.result.outer c.before-outside.result.owner c.before-outside.ensures.names c.before-outside.ensures.outer c.before-outside.ensures.owner refl (subst (PassesArms (record c.args.self.now { tables = c.open.new.self }) c.arms.new.self) c.as_slice.ensures c.in_ok-arms.ensures.passes) c.close.ensures refl

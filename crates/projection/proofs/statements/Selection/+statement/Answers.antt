use Rattle.std.proofs.Common.{◌++◌, sym, ap, ◌∙◌}
use Rattle.c_language.proofs.Turns.{map_turn}
use Rattle.projection.specs.Selected.{left, all_left, arm_left}
use Rattle.projection.proofs.ProjectedForms.{flat_turn, for_is_left}
use Rattle.projection.proofs.statements.Selection.+statement.Goals as goal

pub arms-loop-arm-preserved : goal.arms-loop-arm-preserved
arms-loop-arm-preserved t c =
    map_turn (arm_left c.args.self.now) c.args.list.now c.loop-arm.arm-index c.arm-item.result c.loop-arm.all c.in_ok-arm.field-0 c.push.new.self
    c.loop-arm-test.true c.arm-item.is c.loop-arm.invariant c.in_ok-arm.ensures c.in_ok-push.ensures.ok

pub body-loop-statement-preserved : goal.body-loop-statement-preserved
body-loop-statement-preserved t c =
    flat_turn (left c.args.self.now) c.args.list.now c.loop-statement.statement-index c.statement-item.result c.loop-statement.all c.statement.new.all _
    c.loop-statement-test.true c.statement-item.is c.in_ok-statement.ensures c.loop-statement.invariant

pub statement-returns-in_ok-put-in-For : goal.statement-returns-in_ok-put-in-For
statement-returns-in_ok-put-in-For t c =
    c.in_ok-put-in-For.ensures
    ∙ ap (λ z. c.args.all.now ++ z)
    (c.in_ok-for_loop-in-For.ensures
    ∙ for_is_left c.args.self.now c.in-For.id c.in-For.line c.in-For.init c.in-For.test c.in-For.step c.in-For.body c.in_ok-init-in-For.init c.in_ok-step-in-For.step c.in_ok-body-in-For.body
    c.in_ok-init-in-For.ensures c.in_ok-step-in-For.ensures (c.in_ok-body-in-For.ensures ∙ ap (all_left c.args.self.now) c.as_slice-in-For.ensures)
    ∙ ap (left c.args.self.now) (sym c.in-For.is))

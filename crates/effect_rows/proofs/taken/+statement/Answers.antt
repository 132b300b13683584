-- What the statements in a statement take is marked behind its own.
use Rattle.effect_rows.specs.Own.{own_takes}
use Rattle.effect_rows.specs.Taken.{statement_takes, body_takes, arms_take, part_takes}
use Rattle.effect_rows.proofs.MarkLemmas.{adds_both, adds_three, adds_four, takes_If, takes_While, takes_Do, takes_For, takes_Switch, takes_Block}
use Rattle.effect_rows.proofs.taken.+statement.Goals as goal

pub mark_statement-returns-in_ok-mark_body-in-If-2 : goal.mark_statement-returns-in_ok-mark_body-in-If-2
mark_statement-returns-in_ok-mark_body-in-If-2 t c =
    let p = c.args.p.now in
    adds_three c.args.taken.now.items c.mark_own.new.taken.items c.mark_body.new.taken.items c.mark_body-in-If.new.taken.items
    (own_takes p c.args.statement.now) (body_takes p c.as_slice.result.now) (body_takes p c.as_slice-in-If.result.now) (statement_takes p c.args.statement.now)
    c.in_ok-mark_own.ensures c.in_ok-mark_body-in-If.ensures c.in_ok-mark_body-in-If-2.ensures
    (λ x. rw (c.as_slice.ensures, c.as_slice-in-If.ensures) (takes_If p c.args.statement.now _ _ _ _ _ c.in-If.is x))

pub mark_statement-returns-in_ok-mark_body-in-While : goal.mark_statement-returns-in_ok-mark_body-in-While
mark_statement-returns-in_ok-mark_body-in-While t c =
    let p = c.args.p.now in
    adds_both c.args.taken.now.items c.mark_own.new.taken.items c.mark_body-in-While.new.taken.items
    (own_takes p c.args.statement.now) (body_takes p c.as_slice-in-While.result.now) (statement_takes p c.args.statement.now)
    c.in_ok-mark_own.ensures c.in_ok-mark_body-in-While.ensures
    (λ x. rw (c.as_slice-in-While.ensures) (takes_While p c.args.statement.now _ _ _ _ c.in-While.is x))

pub mark_statement-returns-in_ok-mark_body-in-Do : goal.mark_statement-returns-in_ok-mark_body-in-Do
mark_statement-returns-in_ok-mark_body-in-Do t c =
    let p = c.args.p.now in
    adds_both c.args.taken.now.items c.mark_own.new.taken.items c.mark_body-in-Do.new.taken.items
    (own_takes p c.args.statement.now) (body_takes p c.as_slice-in-Do.result.now) (statement_takes p c.args.statement.now)
    c.in_ok-mark_own.ensures c.in_ok-mark_body-in-Do.ensures
    (λ x. rw (c.as_slice-in-Do.ensures) (takes_Do p c.args.statement.now _ _ _ _ c.in-Do.is x))

pub mark_statement-returns-in_ok-mark_body-in-Block : goal.mark_statement-returns-in_ok-mark_body-in-Block
mark_statement-returns-in_ok-mark_body-in-Block t c =
    let p = c.args.p.now in
    adds_both c.args.taken.now.items c.mark_own.new.taken.items c.mark_body-in-Block.new.taken.items
    (own_takes p c.args.statement.now) (body_takes p c.as_slice-in-Block.result.now) (statement_takes p c.args.statement.now)
    c.in_ok-mark_own.ensures c.in_ok-mark_body-in-Block.ensures
    (λ x. rw (c.as_slice-in-Block.ensures) (takes_Block p c.args.statement.now _ _ c.in-Block.is x))

pub mark_statement-returns-in_ok-mark_arms-in-Switch : goal.mark_statement-returns-in_ok-mark_arms-in-Switch
mark_statement-returns-in_ok-mark_arms-in-Switch t c =
    let p = c.args.p.now in
    adds_both c.args.taken.now.items c.mark_own.new.taken.items c.mark_arms.new.taken.items
    (own_takes p c.args.statement.now) (arms_take p c.as_slice-in-Switch.result.now) (statement_takes p c.args.statement.now)
    c.in_ok-mark_own.ensures c.in_ok-mark_arms-in-Switch.ensures
    (λ x. rw (c.as_slice-in-Switch.ensures) (takes_Switch p c.args.statement.now _ _ _ _ c.in-Switch.is x))

pub mark_statement-returns-in_ok-mark_body-in-For : goal.mark_statement-returns-in_ok-mark_body-in-For
mark_statement-returns-in_ok-mark_body-in-For t c =
    let p = c.args.p.now in
    adds_four c.args.taken.now.items c.mark_own.new.taken.items c.mark_part.new.taken.items c.mark_part-in-For.new.taken.items c.mark_body-in-For.new.taken.items
    (own_takes p c.args.statement.now) (part_takes p c.in-For.init) (part_takes p c.in-For.step) (body_takes p c.as_slice-in-For.result.now) (statement_takes p c.args.statement.now)
    c.in_ok-mark_own.ensures c.in_ok-mark_part-in-For.ensures c.in_ok-mark_part-in-For-2.ensures c.in_ok-mark_body-in-For.ensures
    (λ x. rw (c.as_slice-in-For.ensures) (takes_For p c.args.statement.now _ _ _ _ _ _ c.in-For.is x))

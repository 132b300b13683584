-- The parts of a statement follow what it does itself.
use Rattle.std.proofs.Common.{[], ◌∷◌, ◌++◌, sym, ap, ◌∙◌}
use Rattle.c_language.proofs.Turns.{each_turn}
use Rattle.dep_model.proofs.Grown.{grown_two, grown_three, grown_four}
use Rattle.dep_model.specs.Doings.{body_doings, doings}
use Rattle.effect_rows.specs.Own.{own_doing}
use Rattle.vertex_layout.specs.OwnStatements.{own_doings, done, arms_doings, part_doings}
use Rattle.vertex_layout.proofs.OwnForms.{each_statement, each_arm, whole-Block, whole-While, whole-Do, whole-If, whole-Switch, whole-For}
use Rattle.vertex_layout.proofs.statements.+statement.Goals as goal

pub statements-loop-child-preserved : goal.statements-loop-child-preserved
statements-loop-child-preserved t c =
    each_turn each_statement c.args.list.now c.loop-child.child-index c.child-item.result (own_doings c.args.found.now.items) (own_doings c.loop-child.found.items) (own_doings c.statement.new.found.items)
    c.loop-child-test.true c.child-item.is c.loop-child.invariant c.in_ok-statement.ensures

pub arms-loop-child-preserved : goal.arms-loop-child-preserved
arms-loop-child-preserved t c =
    each_turn each_arm c.args.list.now c.loop-child.child-index c.child-item.result (own_doings c.args.found.now.items) (own_doings c.loop-child.found.items) (own_doings c.arm.new.found.items)
    c.loop-child-test.true c.child-item.is c.loop-child.invariant c.in_ok-arm.ensures

pub statement-returns-in_ok-statements-in-Block : goal.statement-returns-in_ok-statements-in-Block
statement-returns-in_ok-statements-in-Block t c =
    let b = c.in-Block in
    let old = own_doings c.args.found.now.items in
    c.in_ok-statements-in-Block.ensures ∙ ap (λ x. old ++ done (body_doings x)) c.as_slice.ensures ∙ ap (λ xs. old ++ xs) (sym (whole-Block c.args.statement.now b.line b.body b.is))

pub statement-returns-in_ok-statements-in-While : goal.statement-returns-in_ok-statements-in-While
statement-returns-in_ok-statements-in-While t c =
    let b = c.in-While in
    let x = c.args.statement.now in
    let own = own_doings c.push_own-in-While.new.found.items in
    grown_two (own_doings c.args.found.now.items) own (own_doings c.statements-in-While.new.found.items) (own_doing x ∷ []) (done (body_doings b.body)) (done (doings x)) c.in_ok-push_own-in-While.ensures
    (c.in_ok-statements-in-While.ensures ∙ ap (λ y. own ++ done (body_doings y)) c.as_slice-in-While.ensures)
    (whole-While x b.id b.line b.test b.body b.is)

pub statement-returns-in_ok-statements-in-Do : goal.statement-returns-in_ok-statements-in-Do
statement-returns-in_ok-statements-in-Do t c =
    let b = c.in-Do in
    let x = c.args.statement.now in
    let own = own_doings c.push_own-in-Do.new.found.items in
    grown_two (own_doings c.args.found.now.items) own (own_doings c.statements-in-Do.new.found.items) (own_doing x ∷ []) (done (body_doings b.body)) (done (doings x)) c.in_ok-push_own-in-Do.ensures
    (c.in_ok-statements-in-Do.ensures ∙ ap (λ y. own ++ done (body_doings y)) c.as_slice-in-Do.ensures)
    (whole-Do x b.id b.line b.test b.body b.is)

pub statement-returns-in_ok-statements-in-If-2 : goal.statement-returns-in_ok-statements-in-If-2
statement-returns-in_ok-statements-in-If-2 t c =
    let b = c.in-If in
    let x = c.args.statement.now in
    let own = own_doings c.push_own-in-If.new.found.items in
    let first = own_doings c.statements-in-If.new.found.items in
    grown_three (own_doings c.args.found.now.items) own first (own_doings c.statements-in-If-2.new.found.items) (own_doing x ∷ []) (done (body_doings b.then)) (done (body_doings b.other)) (done (doings x))
    c.in_ok-push_own-in-If.ensures
    (c.in_ok-statements-in-If.ensures ∙ ap (λ y. own ++ done (body_doings y)) c.as_slice-in-If.ensures)
    (c.in_ok-statements-in-If-2.ensures ∙ ap (λ y. first ++ done (body_doings y)) c.as_slice-in-If-2.ensures)
    (whole-If x b.id b.line b.test b.then b.other b.is)

pub statement-returns-in_ok-arms-in-Switch : goal.statement-returns-in_ok-arms-in-Switch
statement-returns-in_ok-arms-in-Switch t c =
    let b = c.in-Switch in
    let x = c.args.statement.now in
    let own = own_doings c.push_own-in-Switch.new.found.items in
    grown_two (own_doings c.args.found.now.items) own (own_doings c.arms.new.found.items) (own_doing x ∷ []) (done (arms_doings b.list)) (done (doings x)) c.in_ok-push_own-in-Switch.ensures
    (c.in_ok-arms-in-Switch.ensures ∙ ap (λ y. own ++ done (arms_doings y)) c.as_slice-in-Switch.ensures)
    (whole-Switch x b.id b.line b.test b.list b.is)

pub statement-returns-in_ok-statements-in-For : goal.statement-returns-in_ok-statements-in-For
statement-returns-in_ok-statements-in-For t c =
    let b = c.in-For in
    let x = c.args.statement.now in
    let third = own_doings c.part-in-For.new.found.items in
    grown_four (own_doings c.args.found.now.items) (own_doings c.push_own-in-For.new.found.items) (own_doings c.part.new.found.items) third (own_doings c.statements-in-For.new.found.items)
    (own_doing x ∷ []) (done (part_doings b.init)) (done (part_doings b.step)) (done (body_doings b.body)) (done (doings x))
    c.in_ok-push_own-in-For.ensures c.in_ok-part-in-For.ensures c.in_ok-part-in-For-2.ensures
    (c.in_ok-statements-in-For.ensures ∙ ap (λ y. third ++ done (body_doings y)) c.as_slice-in-For.ensures)
    (whole-For x b.id b.line b.init b.test b.step b.body b.is)

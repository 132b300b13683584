use Rattle.std.proofs.Common.{◌++◌, sym, ap, ◌∙◌}
use Rattle.c_language.proofs.Turns.{each_turn}
use Rattle.dep_model.proofs.Grown.{grown_two, grown_three}
use Rattle.dep_model.specs.Doings.{body_doings, doings}
use Rattle.sdg.specs.CallSites.{sites_in}
use Rattle.sdg.specs.CallWalk.{arms_doings, part_doings}
use Rattle.sdg.proofs.CallWalkLemmas.{each_statement, each_arm, sites-If, sites-For, sites-Switch, sites-Block, sites-While, sites-Do}
use Rattle.sdg.proofs.call_sites.+statement.Goals as goal

pub statements-loop-child-preserved : goal.statements-loop-child-preserved
statements-loop-child-preserved t c =
    each_turn (each_statement c.args.f) c.args.list.now c.loop-child.child-index c.child-item.result c.args.found.now.items c.loop-child.found.items c.statement.new.found.items
    c.loop-child-test.true c.child-item.is c.loop-child.invariant c.in_ok-statement.ensures

pub arms-loop-child-preserved : goal.arms-loop-child-preserved
arms-loop-child-preserved t c =
    each_turn (each_arm c.args.f) c.args.list.now c.loop-child.child-index c.child-item.result c.args.found.now.items c.loop-child.found.items c.arm.new.found.items
    c.loop-child-test.true c.child-item.is c.loop-child.invariant c.in_ok-arm.ensures

pub statement-returns-in_ok-statements-in-Block : goal.statement-returns-in_ok-statements-in-Block
statement-returns-in_ok-statements-in-Block t c =
    let b = c.in-Block in
    let f = c.args.f in
    c.in_ok-statements-in-Block.ensures ∙ ap (λ x. c.args.found.now.items ++ sites_in f (body_doings x)) c.as_slice.ensures
    ∙ ap (λ xs. c.args.found.now.items ++ xs) (sym (ap (λ x. sites_in f (doings x)) b.is ∙ sites-Block f b.line b.body))

pub statement-returns-in_ok-statements-in-If-2 : goal.statement-returns-in_ok-statements-in-If-2
statement-returns-in_ok-statements-in-If-2 t c =
    let b = c.in-If in
    let f = c.args.f in
    grown_two c.args.found.now.items c.statements-in-If.new.found.items c.statements-in-If-2.new.found.items (sites_in f (body_doings b.then)) (sites_in f (body_doings b.other)) (sites_in f (doings c.args.statement.now))
    (c.in_ok-statements-in-If.ensures ∙ ap (λ x. c.args.found.now.items ++ sites_in f (body_doings x)) c.as_slice-in-If.ensures)
    (c.in_ok-statements-in-If-2.ensures ∙ ap (λ x. c.statements-in-If.new.found.items ++ sites_in f (body_doings x)) c.as_slice-in-If-2.ensures)
    (ap (λ x. sites_in f (doings x)) b.is ∙ sites-If f b.id b.line b.test b.then b.other)

pub statement-returns-in_ok-arms-in-Switch : goal.statement-returns-in_ok-arms-in-Switch
statement-returns-in_ok-arms-in-Switch t c =
    let b = c.in-Switch in
    let f = c.args.f in
    c.in_ok-arms-in-Switch.ensures ∙ ap (λ x. c.args.found.now.items ++ sites_in f (arms_doings x)) c.as_slice-in-Switch.ensures
    ∙ ap (λ xs. c.args.found.now.items ++ xs) (sym (ap (λ x. sites_in f (doings x)) b.is ∙ sites-Switch f b.id b.line b.test b.list))

pub statement-returns-in_ok-statements-in-For : goal.statement-returns-in_ok-statements-in-For
statement-returns-in_ok-statements-in-For t c =
    let b = c.in-For in
    let f = c.args.f in
    grown_three c.args.found.now.items c.part.new.found.items c.part-in-For.new.found.items c.statements-in-For.new.found.items (sites_in f (part_doings b.init)) (sites_in f (part_doings b.step)) (sites_in f (body_doings b.body)) (sites_in f (doings c.args.statement.now))
    c.in_ok-part-in-For.ensures
    c.in_ok-part-in-For-2.ensures
    (c.in_ok-statements-in-For.ensures ∙ ap (λ x. c.part-in-For.new.found.items ++ sites_in f (body_doings x)) c.as_slice-in-For.ensures)
    (ap (λ x. sites_in f (doings x)) b.is ∙ sites-For f b.id b.line b.init b.test b.step b.body)

pub statement-returns-in_ok-statements-in-While : goal.statement-returns-in_ok-statements-in-While
statement-returns-in_ok-statements-in-While t c =
    let b = c.in-While in
    let f = c.args.f in
    c.in_ok-statements-in-While.ensures ∙ ap (λ x. c.args.found.now.items ++ sites_in f (body_doings x)) c.as_slice-in-While.ensures
    ∙ ap (λ xs. c.args.found.now.items ++ xs) (sym (ap (λ x. sites_in f (doings x)) b.is ∙ sites-While f b.id b.line b.test b.body))

pub statement-returns-in_ok-statements-in-Do : goal.statement-returns-in_ok-statements-in-Do
statement-returns-in_ok-statements-in-Do t c =
    let b = c.in-Do in
    let f = c.args.f in
    c.in_ok-statements-in-Do.ensures ∙ ap (λ x. c.args.found.now.items ++ sites_in f (body_doings x)) c.as_slice-in-Do.ensures
    ∙ ap (λ xs. c.args.found.now.items ++ xs) (sym (ap (λ x. sites_in f (doings x)) b.is ∙ sites-Do f b.id b.line b.test b.body))

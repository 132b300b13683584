-- The statements in a statement follow what it stores itself.
use Rattle.std.proofs.Common.{◌++◌, map, refl, sym, ap, ◌∙◌}
use Rattle.c_language.proofs.Turns.{each_turn}
use Rattle.dep_model.specs.Doings.{doings, body_doings}
use Rattle.mod_ref.specs.Own.{own_doings, inside_doings, arms_doings, part_doings}
use Rattle.mod_ref.proofs.InsideForms.{own_and_inside, inside-If, inside-For}
use Rattle.points_to.specs.Moves.{told, storing}
use Rattle.points_to.proofs.InsideParts.{inside-While, inside-Do, inside-Switch, inside-Block}
use Rattle.points_to.proofs.MoveLemmas.{each_statement, each_arm, told_one, told_two}
use Rattle.points_to.proofs.moves.+statement.Goals as goal

pub statements-loop-child-preserved : goal.statements-loop-child-preserved
statements-loop-child-preserved t c =
    each_turn (each_statement c.args.effects.now c.args.f) c.args.list.now c.loop-child.child-index c.child-item.result (map told c.args.moves.now.items) (map told c.loop-child.moves.items) (map told c.statement.new.moves.items)
    c.loop-child-test.true c.child-item.is c.loop-child.invariant c.in_ok-statement.ensures

pub arms-loop-arm-preserved : goal.arms-loop-arm-preserved
arms-loop-arm-preserved t c =
    let p = c.args.effects.now in
    let old = map told c.loop-arm.moves.items in
    each_turn (each_arm p c.args.f) c.args.list.now c.loop-arm.arm-index c.arm-item.result (map told c.args.moves.now.items) old (map told c.statements.new.moves.items)
    c.loop-arm-test.true c.arm-item.is c.loop-arm.invariant (c.in_ok-statements.ensures ∙ ap (λ b. old ++ storing p c.args.f (body_doings b)) c.as_slice.ensures)

pub statement-returns : goal.statement-returns
statement-returns t c =
    let s = c.args.statement.now in
    told_two c.args.effects.now c.args.f (own_doings s) (inside_doings s) (doings s) (map told c.args.moves.now.items) (map told c.push_own.new.moves.items) _ (own_and_inside s) c.in_ok-push_own.ensures c.in_ok-inside.ensures

pub inside-returns-in_ok-statements-in-While : goal.inside-returns-in_ok-statements-in-While
inside-returns-in_ok-statements-in-While t c =
    let b = c.in-While in
    let s = c.args.statement.now in
    told_one c.args.effects.now c.args.f (body_doings c.as_slice-in-While.result.now) (inside_doings s) (map told c.args.moves.now.items) (map told c.statements-in-While.new.moves.items) (inside-While s b.id b.line b.test b.body b.is ∙ ap body_doings (sym c.as_slice-in-While.ensures)) c.in_ok-statements-in-While.ensures

pub inside-returns-in_ok-statements-in-Do : goal.inside-returns-in_ok-statements-in-Do
inside-returns-in_ok-statements-in-Do t c =
    let b = c.in-Do in
    let s = c.args.statement.now in
    told_one c.args.effects.now c.args.f (body_doings c.as_slice-in-Do.result.now) (inside_doings s) (map told c.args.moves.now.items) (map told c.statements-in-Do.new.moves.items) (inside-Do s b.id b.line b.test b.body b.is ∙ ap body_doings (sym c.as_slice-in-Do.ensures)) c.in_ok-statements-in-Do.ensures

pub inside-returns-in_ok-statements-in-Block : goal.inside-returns-in_ok-statements-in-Block
inside-returns-in_ok-statements-in-Block t c =
    let b = c.in-Block in
    let s = c.args.statement.now in
    told_one c.args.effects.now c.args.f (body_doings c.as_slice-in-Block.result.now) (inside_doings s) (map told c.args.moves.now.items) (map told c.statements-in-Block.new.moves.items) (inside-Block s b.line b.body b.is ∙ ap body_doings (sym c.as_slice-in-Block.ensures)) c.in_ok-statements-in-Block.ensures

pub inside-returns-in_ok-arms-in-Switch : goal.inside-returns-in_ok-arms-in-Switch
inside-returns-in_ok-arms-in-Switch t c =
    let b = c.in-Switch in
    let s = c.args.statement.now in
    told_one c.args.effects.now c.args.f (arms_doings c.as_slice-in-Switch.result.now) (inside_doings s) (map told c.args.moves.now.items) _ (inside-Switch s b.id b.line b.test b.list b.is ∙ ap arms_doings (sym c.as_slice-in-Switch.ensures)) c.in_ok-arms-in-Switch.ensures

pub inside-returns-in_ok-statements-in-If-2 : goal.inside-returns-in_ok-statements-in-If-2
inside-returns-in_ok-statements-in-If-2 t c =
    let p = c.args.effects.now in
    let f = c.args.f in
    let b = c.in-If in
    let s = c.args.statement.now in
    let old = map told c.args.moves.now.items in
    let mid = map told c.statements.new.moves.items in
    told_two p f (body_doings b.then) (body_doings b.other) (inside_doings s) old mid _ (inside-If s b.id b.line b.test b.then b.other b.is)
    (c.in_ok-statements-in-If.ensures ∙ ap (λ x. old ++ storing p f (body_doings x)) c.as_slice.ensures)
    (c.in_ok-statements-in-If-2.ensures ∙ ap (λ x. mid ++ storing p f (body_doings x)) c.as_slice-in-If.ensures)

pub inside-returns-in_ok-statements-in-For : goal.inside-returns-in_ok-statements-in-For
inside-returns-in_ok-statements-in-For t c =
    let p = c.args.effects.now in
    let f = c.args.f in
    let b = c.in-For in
    let s = c.args.statement.now in
    let old = map told c.args.moves.now.items in
    let first = map told c.part.new.moves.items in
    let second = map told c.part-in-For.new.moves.items in
    let last = map told c.statements-in-For.new.moves.items in
    let rest = part_doings b.step ++ body_doings b.body in
    let body = c.in_ok-statements-in-For.ensures ∙ ap (λ x. second ++ storing p f (body_doings x)) c.as_slice-in-For.ensures in
    told_two p f (part_doings b.init) rest (inside_doings s) old first last (inside-For s b.id b.line b.init b.test b.step b.body b.is) c.in_ok-part-in-For.ensures
    (told_two p f (part_doings b.step) (body_doings b.body) rest first second last refl c.in_ok-part-in-For-2.ensures body)

-- What the parts of a statement do is added one after another.
use Rattle.std.proofs.Common.{◌++◌, refl, subst}
use Rattle.dep_model.specs.Doings.{doings, body_doings}
use Rattle.mod_ref.specs.Own.{IsAdded, own_doings, inside_doings, part_doings}
use Rattle.mod_ref.proofs.AddedLemmas.{added_both, statement_turn, arm_turn}
use Rattle.mod_ref.proofs.InsideForms.{own_and_inside, inside-If, inside-For, last-If, last-For}
use Rattle.mod_ref.proofs.own.Own.+statement.Goals as goal

pub arms-loop-arm-preserved : goal.arms-loop-arm-preserved
arms-loop-arm-preserved t c =
    let f = c.args.f in
    arm_turn f c.args.list.now c.loop-arm.arm-index c.arm-item.result c.args.self.now c.loop-arm.self c.statements.new.self c.loop-arm-test.true c.arm-item.is c.loop-arm.invariant
    (subst (λ b. IsAdded f (body_doings b) c.loop-arm.self c.statements.new.self) c.as_slice.ensures c.in_ok-statements.ensures.added)

pub statements-loop-statement-preserved : goal.statements-loop-statement-preserved
statements-loop-statement-preserved t c =
    statement_turn c.args.f c.args.list.now c.loop-statement.statement-index c.statement-item.result c.args.self.now c.loop-statement.self c.statement.new.self
    c.loop-statement-test.true c.statement-item.is c.loop-statement.invariant c.in_ok-statement.ensures.added

pub inside-returns-in_ok-last-in-If-clause-added : goal.inside-returns-in_ok-last-in-If-clause-added
inside-returns-in_ok-last-in-If-clause-added t c =
    let b = c.in-If in
    let f = c.args.f in
    let s = c.args.statement.now in
    added_both f (body_doings b.then) (body_doings b.other) (inside_doings s) c.args.self.now c.statements.new.self c.last.new.self
    (subst (λ x. IsAdded f (body_doings x) c.args.self.now c.statements.new.self) c.as_slice.ensures c.in_ok-statements-in-If.ensures.added)
    (subst (λ ds. IsAdded f ds c.statements.new.self c.last.new.self) (last-If s b.id b.line b.test b.then b.other b.is) c.in_ok-last-in-If.ensures.added)
    (inside-If s b.id b.line b.test b.then b.other b.is)

pub inside-returns-in_ok-last-in-For-clause-added : goal.inside-returns-in_ok-last-in-For-clause-added
inside-returns-in_ok-last-in-For-clause-added t c =
    let b = c.in-For in
    let f = c.args.f in
    let s = c.args.statement.now in
    let rest = part_doings b.step ++ body_doings b.body in
    added_both f (part_doings b.init) rest (inside_doings s) c.args.self.now c.part.new.self c.last-in-For.new.self
    c.in_ok-part-in-For.ensures.added
    (added_both f (part_doings b.step) (body_doings b.body) rest c.part.new.self c.part-in-For.new.self c.last-in-For.new.self
    c.in_ok-part-in-For-2.ensures.added
    (subst (λ ds. IsAdded f ds c.part-in-For.new.self c.last-in-For.new.self) (last-For s b.id b.line b.init b.test b.step b.body b.is) c.in_ok-last-in-For.ensures.added) refl)
    (inside-For s b.id b.line b.init b.test b.step b.body b.is)

pub statement-returns-clause-added : goal.statement-returns-clause-added
statement-returns-clause-added t c =
    let s = c.args.statement.now in
    added_both c.args.f (own_doings s) (inside_doings s) (doings s) c.args.self.now c.alone.new.self c.inside.new.self c.in_ok-alone.ensures c.in_ok-inside.ensures.added (own_and_inside s)

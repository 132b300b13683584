use Rattle.std.proofs.Common.{List, sym, ap, subst, arith}
use Rattle.std.proofs.lemmas.List.{take_all}
use Rattle.c_tree.specs.declared.statement.Statement.{Statement}
use Rattle.c_language.specs.Code.{declared_in}
use Rattle.c_meaning.specs.Values.{State, all_closed}
use Rattle.c_machine.specs.Rests.{parts}
use Rattle.c_machine.specs.States.{IsState}
use Rattle.c_machine.proofs.StateLemmas.{declared_turn}
use Rattle.c_machine.proofs.states.State.close_declared.Goals as goal

pub loop-statement-preserved : goal.loop-statement-preserved
loop-statement-preserved c = λ s h.
    let ss = c.args.statements.now in
    let i = c.loop-statement.statement-index in
    subst (λ (t : State). IsState c.close_one.new.self t)
    (sym (declared_turn ss i c.statement-item.result c.declared.result s c.loop-statement-test.true c.statement-item.is c.declared.ensures))
    (c.close_one.ensures _ (c.loop-statement.invariant s h))

pub returns : goal.returns
returns c = λ s h.
    let ss = c.args.statements.now in
    let i = c.loop-statement.statement-index in
    let past = c.loop-statement-test.false in
    subst (λ (t : State). IsState c.loop-statement.self t) (ap (λ (ys : List Statement). all_closed (declared_in (parts ys)) s) (take_all i ss (omega (arith, past))))
    (c.loop-statement.invariant s h)

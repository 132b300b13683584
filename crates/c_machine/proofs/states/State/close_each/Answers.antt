use Rattle.std.proofs.Common.{List, ℕ, sym, ap, subst, arith}
use Rattle.std.proofs.lemmas.List.{take_more, take_all}
use Rattle.c_meaning.specs.Values.{State, all_closed}
use Rattle.c_machine.specs.States.{IsState}
use Rattle.c_machine.proofs.StateLemmas.{closed_turn}
use Rattle.c_machine.proofs.states.State.close_each.Goals as goal

pub loop-x-preserved : goal.loop-x-preserved
loop-x-preserved c = λ s h.
    let xs = c.args.variables.now in
    let i = c.loop-x.x-index in
    subst (λ (t : State). IsState c.close.new.self t) (sym (closed_turn xs i _ s (take_more xs i 0 c.loop-x-test.true))) (c.close.ensures _ (c.loop-x.invariant s h))

pub returns : goal.returns
returns c = λ s h.
    let xs = c.args.variables.now in
    let i = c.loop-x.x-index in
    let past = c.loop-x-test.false in
    subst (λ (t : State). IsState c.loop-x.self t) (ap (λ (ys : List ℕ). all_closed ys s) (take_all i xs (omega (arith, past)))) (c.loop-x.invariant s h)

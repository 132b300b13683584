use Rattle.std.proofs.Common.{◌≡◌, suc, List, length, drop, sym, ap, ◌∙◌, subst, arith, rules}
use Rattle.std.specs.Vec.Iter.{into_iter_items}
use Rattle.c_meaning.specs.declared.value.Value.{Value}
use Rattle.c_meaning.specs.Steps.{Point}
use Rattle.c_meaning.specs.Values.{State}
use Rattle.c_machine.specs.Runs.{IsAt}
use Rattle.c_machine.specs.States.{all_passed}
use Rattle.c_machine.proofs.CallLemmas.{pass_end}
use Rattle.c_machine.proofs.runs.Run.pass.Goals as goal

pub loop-value-preserved : goal.loop-value-preserved
loop-value-preserved c =
    let s = into_iter_items c.loop-value.value-iterator in
    let t = into_iter_items c.next.new.self in
    let one_less : length s ≡ suc (length t) = ap length c.in-Some.ensures.steps.0 in
    record {
      passed = λ p before x h.
          let q = c.loop-value.invariant.passed p before x h in
          let y : Point = record x { state = q.0 } in
          let all = all_passed p c.args.params.now (into_iter_items c.into_iter-value-iterator.result) x.state in
          let left = ap (λ (l : List Value). all_passed p (drop c.loop-value.next c.args.params.now) l q.0) (sym c.in-Some.ensures.steps.0) ∙ q.1.1 in
          c.in_ok-next.ensures p before y t all q.1.0 left;
      counted = omega (arith, one_less, c.in-Some.ensures.steps.1, c.loop-value.invariant.counted);
    }

pub returns : goal.returns
returns c =
    λ p before x h.
    let s = into_iter_items c.loop-value.value-iterator in
    let q = c.loop-value.invariant.passed p before x h in
    let none : length s ≡ 0 = sym c.loop-value.invariant.counted ∙ c.in-None.ensures.steps.0 in
    let gives : into_iter_items c.into_iter-value-iterator.result ≡ c.args.values.items = search rules in
    let done = pass_end p (drop c.loop-value.next c.args.params.now) s q.0 (all_passed p c.args.params.now (into_iter_items c.into_iter-value-iterator.result) x.state) none q.1.1 in
    subst (λ (u : State). IsAt p before c.loop-value.self (record x { state = u })) (done ∙ ap (λ (l : List Value). all_passed p c.args.params.now l x.state) gives) q.1.0

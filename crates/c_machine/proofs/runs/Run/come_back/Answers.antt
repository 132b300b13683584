use Rattle.std.proofs.Common.{◌≡◌, length, List, [], ◌++◌, Option, Some, refl, sym, ap, ◌∙◌, subst, arith}
use Rattle.std.specs.Option.{option_to_list}
use Rattle.std.proofs.lemmas.Result.{IfOk-weaker}
use Rattle.c_meaning.specs.declared.value.Value.{Value}
use Rattle.c_meaning.specs.Activations.{executable, variables_at}
use Rattle.c_meaning.specs.Steps.{Waiting}
use Rattle.c_machine.specs.declared.runs.Caller.{Caller}
use Rattle.c_machine.specs.Runs.{waiting_of, callers_before, Received, GoneOn}
use Rattle.c_machine.proofs.PointLemmas.{back_at, gone_back, gone_end}
use Rattle.c_machine.proofs.RunLemmas.{no_items, ok_always, come_smaller, closed-returned, callers_taken, at_callers, at_back}
use Rattle.c_machine.proofs.runs.Run.come_back.Goals as goal

pub returns-in-Some-clause-stands : goal.returns-in-Some-clause-stands
returns-in-Some-clause-stands c =
    λ p before x h e.
    let v = c.in-Some in
    let k : Caller = v.field-0 in
    let popped : ◌≡◌ {A = Option Caller} c.pop.result (Some k) = c.in-Some.is in
    let cs = c.pop.new.self in
    let w : Waiting = waiting_of k in
    let ws = callers_before cs.items [] in
    let items = c.pop.ensures.items ∙ ap (λ (o : Option Caller). cs.items ++ option_to_list o) popped in
    let taken = callers_taken p before c.args.self.now cs k x items h in
    let h1 = c.end_function.ensures.stands p before (record x { callers = ws }) (at_callers p before c.args.self.now cs x h) in
    let h2 = at_back p before c.end_function.new.self _ k x ws h1 refl refl refl refl refl refl refl c.replace-given.ensures.after refl refl in
    let given = c.replace-given.ensures.value ∙ h1.state.returned ∙ closed-returned (variables_at (executable p) x.function) x.state in
    IfOk-weaker c.receive.result _ (λ o. GoneOn p before o c.receive.new.self x)
    (λ o g. gone_back p before x w ws o c.receive.new.self e taken (subst (λ (u : Option Value). Received p before w.call w.target u o c.receive.new.self (back_at p before x w ws)) given g))
    (c.receive.ensures.stands p before (back_at p before x w ws) h2)

pub returns-in-Some-clause-fewer : goal.returns-in-Some-clause-fewer
returns-in-Some-clause-fewer c =
    λ none.
    let v = c.in-Some in
    let k : Caller = v.field-0 in
    let popped : ◌≡◌ {A = Option Caller} c.pop.result (Some k) = c.in-Some.is in
    let cs = c.pop.new.self in
    let items = c.pop.ensures.items ∙ ap (λ (o : Option Caller). cs.items ++ option_to_list o) popped in
    ok_always c.receive.result _ (λ o is. come_smaller c.args.self.now c.receive.new.self cs k none items c.receive.ensures.left (c.receive.ensures.callers ∙ c.end_function.ensures.callers))

pub returns-in-None-clause-stands : goal.returns-in-None-clause-stands
returns-in-None-clause-stands c =
    λ p before x h e.
    let none : length c.args.self.now.callers.items ≡ 0 = omega (arith, c.in-None.ensures.cases.0, c.args.self.now.callers.ok.0) in
    gone_end p before (record c.args.self.now { callers = c.pop.new.self }) x (record { program = h.program; trace = h.trace }) e
    (sym h.callers ∙ ap (λ (l : List Caller). callers_before l []) (no_items c.args.self.now.callers.items none))

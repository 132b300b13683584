use Rattle.std.proofs.Common.{◌≡◌, ◌+◌, ◌<◌, length, ◌++◌, Option, Some, refl, sym, ap, ◌∙◌, subst, arith}
use Rattle.std.specs.Option.{option_to_list}
use Rattle.c_machine.specs.declared.rests.Rest.{Rest}
use Rattle.c_machine.specs.declared.rests.Rest.TheVariants as rest
use Rattle.std.proofs.lemmas.Result.{IfOk-weaker}
use Rattle.c_tree.specs.declared.program.Program.{Program}
use Rattle.c_language.specs.Code.{declared_in}
use Rattle.c_machine.specs.declared.runs.Run.{Run}
use Rattle.c_machine.specs.Rests.{left_code, parts}
use Rattle.c_machine.specs.States.{IsState, opened_in}
use Rattle.c_machine.specs.Sizes.{left_size, list_size, run_size}
use Rattle.c_machine.proofs.PointLemmas.{popped_code, gone_same, gone_open, gone_leave, at_popped}
use Rattle.c_machine.proofs.RunLemmas.{at_state, smaller, popped_size, no_items}
use Rattle.c_machine.proofs.runs.Run.go_on.Goals as goal

pub returns-in_ok-add_first-in-Some-List-clause-stands : goal.returns-in_ok-add_first-in-Some-List-clause-stands
returns-in_ok-add_first-in-Some-List-clause-stands c =
    λ p before x h.
    let popped : ◌≡◌ {A = Option Rest} c.pop.result (Some (rest.List c.in-Some-List.list)) = cc in
    let items = c.pop.ensures.items ∙ ap (λ (o : Option Rest). c.pop.new.self.items ++ option_to_list o) popped in
    gone_same p before c.args.self.now c.add_first.new.left x h (c.in_ok-add_first-in-Some-List.ensures.code ∙ sym (popped_code c.args.self.now.left.items c.pop.new.self.items (rest.List c.in-Some-List.list) items))

pub returns-in_ok-add_first-in-Some-List-clause-fewer : goal.returns-in_ok-add_first-in-Some-List-clause-fewer
returns-in_ok-add_first-in-Some-List-clause-fewer c =
    λ none.
    let popped : ◌≡◌ {A = Option Rest} c.pop.result (Some (rest.List c.in-Some-List.list)) = cc in
    let items = c.pop.ensures.items ∙ ap (λ (o : Option Rest). c.pop.new.self.items ++ option_to_list o) popped in
    let whole : left_size c.args.self.now.left.items ≡ left_size c.pop.new.self.items + list_size c.in-Some-List.list.now = popped_size c.args.self.now.left.items c.pop.new.self.items (rest.List c.in-Some-List.list) items in
    let less = c.in_ok-add_first-in-Some-List.ensures.size in
    smaller c.args.self.now (record c.args.self.now { left = c.add_first.new.left }) (omega (arith, whole, less)) refl

pub returns-in_ok-open-in-Some-Opens-clause-stands : goal.returns-in_ok-open-in-Some-Opens-clause-stands
returns-in_ok-open-in-Some-Opens-clause-stands c =
    λ p before x h.
    let popped : ◌≡◌ {A = Option Rest} c.pop.result (Some (rest.Opens c.in-Some-Opens.x)) = cc in
    let items = c.pop.ensures.items ∙ ap (λ (o : Option Rest). c.pop.new.self.items ++ option_to_list o) popped in
    let k = left_code c.pop.new.self.items in
    gone_open p before c.args.self.now _ c.in-Some-Opens.x k x (sym h.rest ∙ popped_code c.args.self.now.left.items c.pop.new.self.items (rest.Opens c.in-Some-Opens.x) items)
    (at_state p before (record c.args.self.now { left = c.pop.new.self }) c.open.new.self (record x { rest = k }) (opened_in p c.in-Some-Opens.x x.state)
    (subst (λ (q : Program). IsState c.open.new.self (opened_in q c.in-Some-Opens.x x.state)) h.program (c.in_ok-open-in-Some-Opens.ensures.opened x.state h.state)) (at_popped p before c.args.self.now c.pop.new.self x h))

pub returns-in_ok-open-in-Some-Opens-clause-fewer : goal.returns-in_ok-open-in-Some-Opens-clause-fewer
returns-in_ok-open-in-Some-Opens-clause-fewer c =
    λ none.
    let popped : ◌≡◌ {A = Option Rest} c.pop.result (Some (rest.Opens c.in-Some-Opens.x)) = cc in
    let items = c.pop.ensures.items ∙ ap (λ (o : Option Rest). c.pop.new.self.items ++ option_to_list o) popped in
    let whole : left_size c.args.self.now.left.items ≡ left_size c.pop.new.self.items + 1 = popped_size c.args.self.now.left.items c.pop.new.self.items (rest.Opens c.in-Some-Opens.x) items in
    smaller c.args.self.now (record c.args.self.now { left = c.pop.new.self; state = c.open.new.self }) (omega (arith, whole)) refl

pub returns-in-Some-Leaves-clause-stands : goal.returns-in-Some-Leaves-clause-stands
returns-in-Some-Leaves-clause-stands c =
    λ p before x h.
    let popped : ◌≡◌ {A = Option Rest} c.pop.result (Some (rest.Leaves c.in-Some-Leaves.list)) = cc in
    let items = c.pop.ensures.items ∙ ap (λ (o : Option Rest). c.pop.new.self.items ++ option_to_list o) popped in
    let k = left_code c.pop.new.self.items in
    gone_leave p before _ (declared_in (parts c.in-Some-Leaves.list.now)) k x (sym h.rest ∙ popped_code c.args.self.now.left.items c.pop.new.self.items (rest.Leaves c.in-Some-Leaves.list) items)
    (at_state p before (record c.args.self.now { left = c.pop.new.self }) c.close_declared.new.self (record x { rest = k }) _ (c.close_declared.ensures x.state h.state) (at_popped p before c.args.self.now c.pop.new.self x h))

pub returns-in-Some-Leaves-clause-fewer : goal.returns-in-Some-Leaves-clause-fewer
returns-in-Some-Leaves-clause-fewer c =
    λ none.
    let popped : ◌≡◌ {A = Option Rest} c.pop.result (Some (rest.Leaves c.in-Some-Leaves.list)) = cc in
    let items = c.pop.ensures.items ∙ ap (λ (o : Option Rest). c.pop.new.self.items ++ option_to_list o) popped in
    let whole : left_size c.args.self.now.left.items ≡ left_size c.pop.new.self.items + 1 = popped_size c.args.self.now.left.items c.pop.new.self.items (rest.Leaves c.in-Some-Leaves.list) items in
    smaller c.args.self.now (record c.args.self.now { left = c.pop.new.self; state = c.close_declared.new.self }) (omega (arith, whole)) refl

pub returns-in-Some-Act-clause-stands : goal.returns-in-Some-Act-clause-stands
returns-in-Some-Act-clause-stands c =
    λ p before x h.
    let popped : ◌≡◌ {A = Option Rest} c.pop.result (Some (rest.Act c.in-Some-Act.statement)) = cc in
    let items = c.pop.ensures.items ∙ ap (λ (o : Option Rest). c.pop.new.self.items ++ option_to_list o) popped in
    c.stop_at.ensures.stands p before x (at_popped p before c.args.self.now c.pop.new.self x h)
    (sym h.rest ∙ popped_code c.args.self.now.left.items c.pop.new.self.items (rest.Act c.in-Some-Act.statement) items)

pub returns-in-Some-Act-clause-fewer : goal.returns-in-Some-Act-clause-fewer
returns-in-Some-Act-clause-fewer c =
    let popped : ◌≡◌ {A = Option Rest} c.pop.result (Some (rest.Act c.in-Some-Act.statement)) = cc in
    let items = c.pop.ensures.items ∙ ap (λ (o : Option Rest). c.pop.new.self.items ++ option_to_list o) popped in
    let whole : left_size c.args.self.now.left.items ≡ left_size c.pop.new.self.items + 1 = popped_size c.args.self.now.left.items c.pop.new.self.items (rest.Act c.in-Some-Act.statement) items in
    let less : run_size (record c.args.self.now { left = c.pop.new.self }) < run_size c.args.self.now = smaller c.args.self.now (record c.args.self.now { left = c.pop.new.self }) (omega (arith, whole)) refl in
    IfOk-weaker c.stop_at.result _ _ (λ o same none. subst (λ (r : Run). run_size r < run_size c.args.self.now) (sym (same none)) less) c.stop_at.ensures.same

pub returns-in-None-clause-stands : goal.returns-in-None-clause-stands
returns-in-None-clause-stands c =
    λ p before x h.
    let none : length c.args.self.now.left.items ≡ 0 = omega (arith, c.in-None.ensures.cases.0, c.args.self.now.left.ok.0) in
    let gone : length c.pop.new.self.items ≡ 0 = omega (arith, c.in-None.ensures.cases.1, c.pop.new.self.ok.0) in
    let empty = no_items c.args.self.now.left.items none in
    c.come_back.ensures.stands p before x
    (record { program = h.program; globals = h.globals; function = h.function; rest = ap left_code (no_items c.pop.new.self.items gone ∙ sym empty) ∙ h.rest; state = h.state; callers = h.callers; trace = h.trace })
    (sym h.rest ∙ ap left_code empty)

pub returns-in-None-clause-fewer : goal.returns-in-None-clause-fewer
returns-in-None-clause-fewer c =
    let none : length c.args.self.now.left.items ≡ 0 = omega (arith, c.in-None.ensures.cases.0, c.args.self.now.left.ok.0) in
    let gone : length c.pop.new.self.items ≡ 0 = omega (arith, c.in-None.ensures.cases.1, c.pop.new.self.ok.0) in
    let same : left_size c.pop.new.self.items ≡ left_size c.args.self.now.left.items = ap left_size (no_items c.pop.new.self.items gone ∙ sym (no_items c.args.self.now.left.items none)) in
    IfOk-weaker c.come_back.result _ _ (λ o less none_. let l = less none_ in omega (arith, l, same)) (c.come_back.ensures.fewer (no_items c.pop.new.self.items gone))

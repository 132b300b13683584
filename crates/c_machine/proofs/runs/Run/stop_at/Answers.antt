use Rattle.std.proofs.Common.{is_some, sym, ap, subst, ◌∙◌}
use Rattle.c_tree.specs.declared.statement.Statement.{out-Statement}
use Rattle.c_machine.specs.declared.rests.Rest.TheVariants as rest
use Rattle.c_machine.specs.Rests.{left_code, IsAct}
use Rattle.c_machine.proofs.RestLemmas.{left-push}
use Rattle.c_machine.proofs.PointLemmas.{no_act, has_act, going_at, same_at}
use Rattle.c_machine.proofs.runs.Run.stop_at.Goals as goal

pub returns-in_ok-push-in-Some-clause-stands : goal.returns-in_ok-push-in-Some-clause-stands
returns-in_ok-push-in-Some-clause-stands c =
    λ p before x h e.
    let k = left_code c.args.self.now.left.items in
    let some = ap is_some (sym c.own_start.ensures ∙ c.in-Some.is) in
    going_at p before c.args.self.now c.push.new.self x k h (ap left_code c.in_ok-push-in-Some.ensures.items ∙ left-push c.args.self.now.left.items (rest.Act c.args.statement) ∙ sym e)
    (subst IsAct (sym e) (has_act (out-Statement c.args.statement.now) k some))

pub returns-in-None-clause-stands : goal.returns-in-None-clause-stands
returns-in-None-clause-stands c =
    λ p before x h e.
    let k = left_code c.args.self.now.left.items in
    let none = ap is_some (sym c.own_start.ensures ∙ c.in-None.is) in
    same_at p before c.args.self.now x k h (e ∙ no_act (out-Statement c.args.statement.now) k none)

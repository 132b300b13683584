use Rattle.std.proofs.Common.{ℕ, Option, inl, inr, refl, subst}
use Rattle.std.proofs.lemmas.Result.{IfOk-weaker}
use Rattle.c_machine.specs.Runs.{Acted, Settled, Turned}
use Rattle.c_machine.specs.declared.runs.Turn.{Turn}
use Rattle.c_machine.proofs.runs.Run.act_and_settle.Goals as goal

pub returns-in-Some : goal.returns-in-Some
returns-in-Some c =
    λ p before x h.
    inr (c.in-Some.statement, (refl, subst (λ (o : Option ℕ). Acted p before o c.act.new.self x) c.in-Some.is (c.in_ok-statement.ensures p before x h)))

pub returns-in-None : goal.returns-in-None
returns-in-None c =
    λ p before x h.
    let a = subst (λ (o : Option ℕ). Acted p before o c.act.new.self x) c.in-None.is (c.in_ok-statement.ensures p before x h) in
    IfOk-weaker c.settle.result (λ t. Settled p before t c.settle.new.self a.0) (λ t. Turned p before t c.settle.new.self x) (λ (t : Turn) s. inl (a.0, (a.1.0, s))) (c.settle.ensures p before a.0 a.1.1)

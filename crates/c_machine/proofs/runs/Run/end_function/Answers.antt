use Rattle.std.proofs.Common.{List, sym, ap, ◌∙◌}
use Rattle.c_tree.specs.declared.statement.Statement.{Statement}
use Rattle.c_language.specs.Code.{declared_in}
use Rattle.c_machine.specs.Rests.{parts}
use Rattle.std.specs.Option.{option_copied}
use Rattle.c_machine.proofs.RunLemmas.{ended_with, ended_alone}
use Rattle.c_machine.proofs.runs.Run.end_function.Goals as goal

pub returns-in-Some-clause-stands : goal.returns-in-Some-clause-stands
returns-in-Some-clause-stands c =
    λ p before x h.
    let found = sym (ap option_copied c.in-Some.is) ∙ c.get.ensures.value in
    ended_with p before c.args.self.now c.close_declared.new.self x c.in-Some.function.now c.as_slice.result.now (declared_in (parts c.as_slice-in-Some.result.now)) h found c.as_slice.ensures
    (ap (λ (ss : List Statement). declared_in (parts ss)) c.as_slice-in-Some.ensures) (c.close_declared.ensures _ (c.close_each.ensures x.state h.state))

pub returns-in-None-clause-stands : goal.returns-in-None-clause-stands
returns-in-None-clause-stands c =
    λ p before x h.
    ended_alone p before c.args.self.now x h (sym (ap option_copied c.in-None.is) ∙ c.get.ensures.value)

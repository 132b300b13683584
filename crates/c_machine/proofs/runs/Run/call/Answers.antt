use Rattle.std.proofs.Common.{sym, ap, ◌∙◌}
use Rattle.std.specs.Prelude.{slice_get}
use Rattle.std.specs.Option.{option_copied}
use Rattle.c_tree.specs.declared.program.Program.{Program}
use Rattle.c_meaning.specs.Steps.{Point}
use Rattle.c_machine.specs.Rests.{left_code}
use Rattle.c_machine.proofs.CallLemmas.{called_not}
use Rattle.c_machine.proofs.PointLemmas.{entered_not}
use Rattle.c_machine.proofs.RunLemmas.{heard_at}
use Rattle.c_machine.proofs.runs.Run.call.Goals as goal

pub returns-in-Some : goal.returns-in-Some
returns-in-Some c =
    λ p before x h e. c.call_of.ensures p before x h e

pub returns-in-None : goal.returns-in-None
returns-in-None c =
    λ p before x h e.
    let k = left_code c.args.self.now.left.items in
    let y : Point = record x { rest = k } in
    let missing = sym (ap option_copied c.in-None.is) ∙ c.get.ensures.value ∙ ap (λ (q : Program). slice_get q.functions c.args.function) h.program in
    entered_not p before x c.args.id c.args.target.now c.args.function c.args.args.now k c.args.self.now e (called_not p x.function c.args.function c.args.args.now x.state missing) (heard_at p before c.args.self.now y h)

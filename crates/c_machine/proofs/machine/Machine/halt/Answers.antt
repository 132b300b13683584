use Rattle.std.proofs.Common.{sym, ap, ◌∙◌}
use Rattle.c_machine.specs.declared.machine.Halt.TheVariants as halt
use Rattle.c_machine.specs.Progress.{Progress, meant_with, halt_of}
use Rattle.c_machine.proofs.ProgressLemmas.{halted, going_halt}
use Rattle.c_machine.proofs.machine.Machine.halt.Goals as goal

pub returns-in-Going : goal.returns-in-Going
returns-in-Going c =
    halted _ c.self.inside.turn c.self.inside.run c.self.inside.events.items c.self.inside.output.items halt.Steps (ap (λ (q : Progress). q.failed) c.self.view_is ∙ c.requires) c.self.invariant
    (λ b e. going_halt b (sym c.in-Going.is ∙ e))
    ∙ ap (λ (q : Progress). halt_of (meant_with q 0)) c.self.view_is

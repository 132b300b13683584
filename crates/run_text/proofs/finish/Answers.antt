use Rattle.std.proofs.Common.{sym, ◌∙◌}
use Rattle.c_machine.specs.Progress.{meant_with}
use Rattle.run_text.proofs.RunLemmas.{ended_of, undefined_of, more_of}
use Rattle.run_text.proofs.finish.Goals as goal

pub returns-in-Ended-clause-ended : goal.returns-in-Ended-clause-ended
returns-in-Ended-clause-ended c = ended_of (meant_with c.args.machine.now c.args.steps) (sym c.in-Ended.is ∙ c.in_ok-run.ensures.answer)

pub returns-in-Undefined-clause-fault : goal.returns-in-Undefined-clause-fault
returns-in-Undefined-clause-fault c =
    undefined_of (meant_with c.args.machine.now c.args.steps) c.in-Undefined.statement (sym c.in-Undefined.is ∙ c.in_ok-run.ensures.answer)

pub returns-in-Steps-clause-fault : goal.returns-in-Steps-clause-fault
returns-in-Steps-clause-fault c = more_of (meant_with c.args.machine.now c.args.steps) (sym c.in-Steps.is ∙ c.in_ok-run.ensures.answer)

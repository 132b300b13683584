use Rattle.slicer_top.proofs.UndefinedStarts.{undefined_starts}
use Rattle.slicer_top.proofs.running.undefined_act.Goals as goal

pub returns-in-Ok : goal.returns-in-Ok
returns-in-Ok c = λ steps input trace is.
    let start = undefined_starts c.args.program.now steps input c.args.statement trace is in
    ((trace, is), c.in-Ok.ensures start.0 start.1)

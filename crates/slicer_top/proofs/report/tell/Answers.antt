use Rattle.std.proofs.Common.{refl}
use Rattle.std.proofs.lemmas.Bool.{false≢true}
use Rattle.slicer_top.proofs.Puts.{and_no_more}
use Rattle.slicer_top.proofs.report.tell.Goals as goal

pub returns-in-Ok-clause-taken : goal.returns-in-Ok-clause-taken
returns-in-Ok-clause-taken g c = λ takes.
    (refl, c.in-Ok.ensures.no_fault 0 (and_no_more (g.E.Sink.takes c.args.err.now) _ takes))

pub returns-in-Err-clause-taken : goal.returns-in-Err-clause-taken
returns-in-Err-clause-taken g c = λ takes.
    absurd (false≢true (c.in-Err.ensures.taken 0 (and_no_more (g.E.Sink.takes c.args.err.now) _ takes)))

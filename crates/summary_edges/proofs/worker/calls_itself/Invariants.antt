use Rattle.std.proofs.Common.{take}
use Rattle.summary_edges.proofs.GoingOnLaws.{IsAnyOwn}
use Rattle.summary_edges.proofs.worker.calls_itself.Given as goal

abbrev pub invariant-loop-call : goal.invariant-loop-call
invariant-loop-call l = IsAnyOwn l.part.range (take l.call-index l.calls) l.found

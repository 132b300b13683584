use Rattle.std.proofs.Common.{take}
use Rattle.summary_edges.proofs.AgendaLaws.{AreCallersAdded}
use Rattle.summary_edges.proofs.agenda.Agenda.add_callers.Given as goal

abbrev pub invariant-loop-call : goal.invariant-loop-call
invariant-loop-call l = AreCallersAdded l.parts l.initial.self (take l.call-index l.callers) l.self

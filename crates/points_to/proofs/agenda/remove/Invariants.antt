use Rattle.points_to.proofs.AgendaLemmas.{IsRemoved}
use Rattle.points_to.proofs.agenda.remove.Given as goal

abbrev pub invariant-loop-at : goal.invariant-loop-at
invariant-loop-at l = IsRemoved l.words l.initial.from l.at l.from

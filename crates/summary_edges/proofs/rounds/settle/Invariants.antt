use Rattle.summary_edges.proofs.RoundLaws.{IsSettling, left_to_do}
use Rattle.summary_edges.proofs.rounds.settle.Given as goal

abbrev pub invariant-loop-alloc : goal.invariant-loop-alloc
invariant-loop-alloc g l = IsSettling l.g l.agenda.items l.words.items

abbrev pub decreases-loop-alloc : goal.decreases-loop-alloc
decreases-loop-alloc g l = left_to_do l.words.items l.agenda.items

use Rattle.points_to.specs.Rounds.{IsRound}
use Rattle.points_to.proofs.rounds.forwards.Given as goal

abbrev pub invariant-loop-k : goal.invariant-loop-k
invariant-loop-k l = IsRound l.initial.solver.effects l.moves 0 l.k l.initial.solver l.solver l.changed

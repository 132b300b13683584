use Rattle.std.proofs.Common.{◌≤◌, length}
use Rattle.points_to.specs.Rounds.{IsRound}
use Rattle.points_to.proofs.rounds.backwards.Given as goal

abbrev pub invariant-loop-left : goal.invariant-loop-left
invariant-loop-left l = record {
  used : IsRound l.initial.solver.effects l.moves l.left (length l.moves) l.initial.solver l.solver l.changed;
  within : l.left ≤ length l.moves;
}

abbrev pub decreases-loop-left : goal.decreases-loop-left
decreases-loop-left l = l.left

use Rattle.std.proofs.Common.{◌≤◌, ◌-◌}
use Rattle.points_to.proofs.JoinLemmas.{IsJoinedBelow}
use Rattle.points_to.proofs.solver.Solver.join.Given as goal

abbrev pub invariant-loop-place : goal.invariant-loop-place
invariant-loop-place l = record {
  joined : IsJoinedBelow l.place l.initial.self l.self l.changed;
  within : l.place ≤ l.count;
}

abbrev pub decreases-loop-place : goal.decreases-loop-place
decreases-loop-place l = l.count - l.place

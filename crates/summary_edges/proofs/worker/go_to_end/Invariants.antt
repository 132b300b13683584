use Rattle.std.proofs.Common.{◌≡◌, length}
use Rattle.crew.specs.Seats.{view, board_of}
use Rattle.summary_edges.specs.ExitRows.{HaveOneShape}
use Rattle.summary_edges.specs.Workers.{HasLearned, IsGoingOn}
use Rattle.summary_edges.proofs.GoingOnLaws.{left_over}
use Rattle.summary_edges.proofs.worker.go_to_end.Given as goal

abbrev pub invariant-loop-part : goal.invariant-loop-part
invariant-loop-part l = record {
  board : board_of l.seat ≡ board_of l.initial.seat;
  learned : HasLearned (view l.initial.seat) (view l.seat);
  shape : HaveOneShape l.initial.table l.table;
  long : length l.known ≡ length l.initial.known;
  going : IsGoingOn l.t.graph.now l.part l.table l.own l.news l.known (view l.seat);
}

abbrev pub decreases-loop-part : goal.decreases-loop-part
decreases-loop-part l = left_over l.initial.known l.known

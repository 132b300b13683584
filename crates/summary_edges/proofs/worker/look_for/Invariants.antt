use Rattle.std.proofs.Common.{◌≡◌, length}
use Rattle.crew.specs.Seats.{view, board_of}
use Rattle.summary_edges.specs.Workers.{HasLooked, IsReadBefore}
use Rattle.summary_edges.proofs.worker.look_for.Given as goal

abbrev pub invariant-loop-vertex : goal.invariant-loop-vertex
invariant-loop-vertex l = record {
  board : board_of l.seat ≡ board_of l.initial.seat;
  long : length l.known ≡ length l.initial.known;
  looked : HasLooked l.t.graph.now (IsReadBefore l.t.graph.now l.fn.part.range.first l.vertex) l.initial.known l.known (view l.initial.seat) (view l.seat);
}

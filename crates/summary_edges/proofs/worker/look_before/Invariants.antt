use Rattle.std.proofs.Common.{◌≡◌, length, take}
use Rattle.crew.specs.Seats.{view, board_of}
use Rattle.summary_edges.specs.Workers.{HasLooked, IsReadAmong}
use Rattle.summary_edges.proofs.worker.look_before.Given as goal

abbrev pub invariant-loop-edge : goal.invariant-loop-edge
invariant-loop-edge l = record {
  board : board_of l.seat ≡ board_of l.initial.seat;
  long : length l.known ≡ length l.initial.known;
  looked : HasLooked l.t.graph.now (IsReadAmong l.t.graph.now (take l.edge-index l.edges)) l.initial.known l.known (view l.initial.seat) (view l.seat);
}

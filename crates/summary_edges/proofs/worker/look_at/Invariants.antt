use Rattle.std.proofs.Common.{◌≡◌, ◌<◌, ◌≤◌, length}
use Rattle.crew.specs.Seats.{view, board_of}
use Rattle.summary_edges.specs.Workers.{HasLooked}
use Rattle.summary_edges.proofs.worker.look_at.Given as goal

abbrev pub invariant-loop-word : goal.invariant-loop-word
invariant-loop-word l = record {
  board : board_of l.seat ≡ board_of l.initial.seat;
  long : length l.known ≡ length l.initial.known;
  looked : HasLooked l.t.graph.now (λ w. (l.first ≤ w) × (w < l.word)) l.initial.known l.known (view l.initial.seat) (view l.seat);
}

use Rattle.std.proofs.Common.{◌≡◌, ◌+◌, All, length}
use Rattle.crew.specs.Seats.{view, board_of, id_of}
use Rattle.summary_edges.specs.Teams.{IsFresh, part, parts}
use Rattle.summary_edges.proofs.team.seats_of.Given as goal

abbrev pub invariant-loop-seat : goal.invariant-loop-seat
invariant-loop-seat l = record {
  fresh : IsFresh l.fn.first l.first;
  board : board_of l.first ≡ id_of l.board;
  each : All (IsFresh l.fn.first) l.seats.items;
  count : length l.seats.items + 1 ≡ l._seat;
  spare : (view l.first).spare + length l.seats.items ≡ 15;
  parts : parts l.seats.items + part l.first ≡ 16;
}

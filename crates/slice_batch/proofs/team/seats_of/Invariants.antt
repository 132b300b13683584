use Rattle.std.proofs.Common.{◌≡◌, ◌+◌, All, length}
use Rattle.crew.specs.Seats.{view, id_of}
use Rattle.slice_batch.specs.Team.{IsFresh, part, parts}
use Rattle.slice_batch.proofs.team.seats_of.Given as goal

abbrev pub invariant-loop-seat : goal.invariant-loop-seat
invariant-loop-seat l = record {
  first : IsFresh (id_of l.board) (view l.fn.first).end l.first;
  each : All (IsFresh (id_of l.board) (view l.fn.first).end) l.seats.items;
  count : length l.seats.items + 1 ≡ l._seat;
  spare : (view l.first).spare + length l.seats.items ≡ 15;
  parts : parts l.seats.items + part l.first ≡ 16;
}

use Rattle.std.proofs.Common.{◌≡◌, ◌-◌, ◌≤◌, All, length}
use Rattle.crew.specs.Counts.{Has}
use Rattle.crew.specs.Seats.{view, id_of}
use Rattle.slice_batch.specs.Team.{IsMade, IsSeatOf, numbers}
use Rattle.slice_batch.proofs.worker.make_all.Given as goal

abbrev pub invariant-loop-number : goal.invariant-loop-number
invariant-loop-number g l = record {
  is_seat : IsSeatOf (id_of l.board) (length l.list) l.seat;
  spare : (view l.seat).spare ≡ (view l.initial.seat).spare;
  numbers_are : (view l.seat).drawn ≡ numbers l.made.items;
  each : All (IsMade l.e l.list) l.made.items;
  same : l.slicing ≡ l.e;
  below : l.next ≤ (view l.seat).end;
  last : 1 ≤ l.next → Has (view l.seat).drawn (l.next - 1);
}

abbrev pub decreases-loop-number : goal.decreases-loop-number
decreases-loop-number g l = (view l.seat).end - l.next

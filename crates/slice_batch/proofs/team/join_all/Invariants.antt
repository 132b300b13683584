use Rattle.std.proofs.Common.{◌≡◌, ◌+◌, true, All, length}
use Rattle.crew.specs.Seats.{view, id_of}
use Rattle.slice_batch.specs.Team.{ArePlaced, IsSeatOf, IsWorked, part, worked_parts}
use Rattle.slice_batch.proofs.team.join_all.Given as goal

abbrev pub invariant-loop-other : goal.invariant-loop-other
invariant-loop-other l = record {
  is_seat : IsSeatOf (id_of l.board) (length l.list) l.seat;
  done : (view l.seat).done ≡ true;
  parts : worked_parts l.all.items + part l.seat ≡ 16;
  each : All (IsWorked l.e l.list (id_of l.board)) l.all.items;
  places : length l.texts.items ≡ length l.list;
  placed : ArePlaced l.e l.list (view l.seat).drawn l.texts.items;
}

abbrev pub decreases-loop-other : goal.decreases-loop-other
decreases-loop-other l = length l.all.items

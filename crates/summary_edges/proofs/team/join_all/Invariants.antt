use Rattle.std.proofs.Common.{◌≡◌, ◌+◌, All, length}
use Rattle.crew.specs.Seats.{board_of, id_of}
use Rattle.summary_edges.specs.Teams.{IsOnBoard, part, parts_back}
use Rattle.summary_edges.proofs.TeamLaws.{IsGathered}
use Rattle.summary_edges.proofs.team.join_all.Given as goal

abbrev pub invariant-loop-other : goal.invariant-loop-other
invariant-loop-other l = record {
  board : board_of l.seat ≡ id_of l.board;
  parts : parts_back l.all.items + part l.seat ≡ 16;
  each : All (IsOnBoard (id_of l.board)) l.all.items;
  gathered : IsGathered l.fn.all.items l.all.items l.seat l.finished;
}

abbrev pub decreases-loop-other : goal.decreases-loop-other
decreases-loop-other l = length l.all.items

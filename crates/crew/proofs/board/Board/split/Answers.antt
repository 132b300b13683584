use Rattle.std.proofs.Common.{arith, ◌<◌}
use Rattle.crew.proofs.Seating.{splits}
use Rattle.crew.proofs.board.Board.split.Goals as goal

pub split_seat-theirs-requires : goal.split_seat-theirs-requires
split_seat-theirs-requires g c =
    let inside : 0 < c.args.self.now.table.shared.table_id.words = omega (arith, c.args.self.now.words_are) in
    (c.requires.board, inside, splits g.T.Truth.is_true g.T.Truth.may_put _ _ _ _ c.args.seat.now.seat.me.0 c.args.seat.now.live c.requires.spare)

use Rattle.std.proofs.Common.{arith, ◌<◌, ◌≡◌, false, sym, ◌∙◌}
use Rattle.crew.proofs.Draws.{draws_one}
use Rattle.crew.proofs.board.Board.draw.Goals as goal

pub fetch_add-number-requires : goal.fetch_add-number-requires
fetch_add-number-requires g c =
    let inside : 0 < c.args.self.now.table.shared.table_id.words = omega (arith, c.args.self.now.words_are) in
    let me = c.args.seat.now.seat.me in
    let going : me.0.done ≡ false = sym c.args.seat.now.done_is ∙ c.if-seat.false in
    (c.requires.board, inside, draws_one g.T.Truth.is_true g.T.Truth.may_put _ _ _ _ _ me.0 me.1 c.args.seat.now.live going)

use Rattle.std.proofs.Common.{add-one, arith, ◌+◌, ◌<◌, ◌≡◌, length, sym, ap, ◌∙◌}
use Rattle.crew.proofs.Steps.{looks, looked_word}
use Rattle.crew.proofs.board.Board.look.Goals as goal

pub load-requires : goal.load-requires
load-requires g c =
    let inside : c.args.word + 1 < c.args.self.now.table.shared.table_id.words = omega (arith, ap (λ z. z.words) c.requires.board, c.requires.word, c.args.seat.now.opening_long) in
    (c.requires.board, inside, looks g.T.Truth.is_true g.T.Truth.may_put _ _ _ _ _ c.args.seat.now.seat.me.0 c.args.seat.now.seat.me.1 _ c.args.word (add-one _) c.args.seat.now.live)

use Rattle.std.proofs.Common.{add-one, arith, ℕ, ◌+◌, ◌*◌, ◌<◌, List, length, sym, ap, subst}
use Rattle.std.specs.Prelude.{slice_index}
use Rattle.crew.proofs.BitLemmas.{put_holds, within_set, within_or}
use Rattle.crew.specs.SharedWords.{Holds, AreWithin}
use Rattle.crew.proofs.Steps.{puts, put_seen}
use Rattle.crew.proofs.board.Board.publish.Goals as goal

pub fetch_or-found-requires : goal.fetch_or-found-requires
fetch_or-found-requires g c =
    let inside : c.args.word + 1 < c.args.self.now.table.shared.table_id.words = omega (arith, ap (λ z. z.words) c.requires.board, c.requires.word, c.args.seat.now.opening_long) in
    let key = c.args.self.now.table.shared.key in
    let me = c.args.seat.now.seat.me in
    let low : c.args.word < length key.start.value.items = omega (arith, c.args.self.now.words_are) in (
      c.requires.board,
      inside,
      puts g.T.Truth.is_true g.T.Truth.may_put key.truth.value _ _ _ _ me.0 me.1 _ c.args.word c.args.bits (add-one _) c.args.seat.now.live low c.ranges.bits.fits
          (λ j new is. c.requires.may_put key.truth.value j is new) (g.T.Truth.sound key.truth.value),
    )

pub returns-clause-knows : goal.returns-clause-knows
returns-clause-knows g c =
    let v = c.args.seat.now.seat.me.0 in
    let seen_is = put_seen g.T.Truth.is_true _ _ c.args.word c.args.bits (add-one _) _ _ _ c.fetch_or-found.ensures.2 in
    let inside : c.args.word < length v.seen = omega (arith, c.requires.word, c.args.seat.now.opening_long, c.args.seat.now.seen_long) in
    λ i h. subst (λ (l : List ℕ). Holds l (64 * c.args.word + i)) (sym seen_is) (put_holds v.seen c.args.word c.args.bits i inside c.ranges.bits.fits h)

pub returns-clause-keeps : goal.returns-clause-keeps
returns-clause-keeps g c =
    let v = c.args.seat.now.seat.me.0 in
    let seen_is = put_seen g.T.Truth.is_true _ _ c.args.word c.args.bits (add-one _) _ _ _ c.fetch_or-found.ensures.2 in
    subst (λ (l : List ℕ). AreWithin v.seen l) (sym seen_is) (within_set v.seen c.args.word _ (within_or (slice_index v.seen c.args.word) c.args.bits))

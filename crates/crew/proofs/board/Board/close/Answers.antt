use Rattle.std.proofs.Common.{arith, ◌≡◌, ℕ, List, true, refl, sym, ap, ◌∙◌, subst, Some}
use Rattle.std.proofs.lemmas.List.{length-set}
use Rattle.std.specs.Slots.{slots_items}
use Rattle.crew.specs.Counts.{AreAllBelow}
use Rattle.crew.specs.SharedWords.{Holds, AreWithin, union}
use Rattle.crew.specs.Shows.{worker_of, IsHistory}
use Rattle.crew.proofs.Seating.{Ends, closes, copied_more, copied_all}
use Rattle.crew.proofs.board.Board.close.Goals as goal

pub loop-i-preserved : goal.loop-i-preserved
loop-i-preserved g c = record {
  long = length-set c.loop-i.words.items c.loop-i.i c.word.result ∙ c.loop-i.invariant.long;
  copied = copied_more c.loop-i.words.items (slots_items c.close_with-closed.result.words) c.loop-i.i c.word.result (omega (arith, c.loop-i.invariant.long, c.loop-i-test.true)) c.word.ensures c.loop-i.invariant.copied;
  same = refl;
}

pub returns-clause-words : goal.returns-clause-words
returns-clause-words g c =
    let v = c.args.seat.seat.me.0 in
    let ends = closes g.T.Truth.is_true g.T.Truth.may_put _ _ _ c.args.seat.seat.id v (slots_items c.close_with-closed.result.words) (slots_items c.close_with-closed.result.slots) c.args.seat.live c.requires.spare c.close_with-closed.ensures.values.2 in
    copied_all c.loop-i.words.items (slots_items c.close_with-closed.result.words) (union v.opening v.set) ends.draws ends.words_are
    (omega (arith, c.loop-i.invariant.long, ends.long, c.args.self.words_are, c.word_count-count.ensures))
    (λ k h. c.loop-i.invariant.copied k (omega (arith, c.loop-i.invariant.long, ends.long, c.args.self.words_are, c.word_count-count.ensures, c.loop-i-test.false)))

pub returns-clause-only_true : goal.returns-clause-only_true
returns-clause-only_true g c =
    let v = c.args.seat.seat.me.0 in
    let key = c.args.self.table.shared.key.truth.value in
    let ends = closes g.T.Truth.is_true g.T.Truth.may_put key _ _ c.args.seat.seat.id v (slots_items c.close_with-closed.result.words) (slots_items c.close_with-closed.result.slots) c.args.seat.live c.requires.spare c.close_with-closed.ensures.values.2 in
    let words_are = returns-clause-words g c in
    λ t n e b.
    let same : key ≡ t = cc in
    subst (λ x. g.T.Truth.is_true x n) same (ends.only_true n (subst (λ (l : List ℕ). Holds l n) words_are b))

pub returns-clause-has_seen : goal.returns-clause-has_seen
returns-clause-has_seen g c =
    let v = c.args.seat.seat.me.0 in
    let ends = closes g.T.Truth.is_true g.T.Truth.may_put _ _ _ c.args.seat.seat.id v (slots_items c.close_with-closed.result.words) (slots_items c.close_with-closed.result.slots) c.args.seat.live c.requires.spare c.close_with-closed.ensures.values.2 in
    subst (λ (l : List ℕ). AreWithin v.seen l) (sym (returns-clause-words g c)) ends.has_seen

pub returns-clause-drawn : goal.returns-clause-drawn
returns-clause-drawn g c =
    let v = c.args.seat.seat.me.0 in
    let ends = closes g.T.Truth.is_true g.T.Truth.may_put _ _ _ c.args.seat.seat.id v (slots_items c.close_with-closed.result.words) (slots_items c.close_with-closed.result.slots) c.args.seat.live c.requires.spare c.close_with-closed.ensures.values.2 in
    ends.drawn

pub returns-clause-history : goal.returns-clause-history
returns-clause-history g c =
    let v = c.args.seat.seat.me.0 in
    let key = c.args.self.table.shared.key.truth.value in
    let ends = closes g.T.Truth.is_true g.T.Truth.may_put key _ _ c.args.seat.seat.id v (slots_items c.close_with-closed.result.words) (slots_items c.close_with-closed.result.slots) c.args.seat.live c.requires.spare c.close_with-closed.ensures.values.2 in
    λ t e.
    let same : key ≡ t = cc in
    subst (λ x. IsHistory (g.T.Truth.may_put x) v.end v.opening c.loop-i.words.items (worker_of v)) same
    (subst (λ (l : List ℕ). IsHistory (g.T.Truth.may_put key) v.end v.opening l (worker_of v)) (sym (returns-clause-words g c)) ends.history)

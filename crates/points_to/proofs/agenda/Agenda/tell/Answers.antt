use Rattle.std.proofs.Common.{◌≡◌, ◌∙◌, ◌&&◌, not, ℕ, List, length, true, ap, subst, arith}
use Rattle.std.proofs.lemmas.List.{with_items_is}
use Rattle.bit_rows.specs.Tables.{the_set}
use Rattle.bit_rows.specs.Words.{word_bit}
use Rattle.points_to.proofs.AgendaLemmas.{left_of, held_bit}
use Rattle.points_to.proofs.agenda.Agenda.tell.Goals as goal

pub returns-clause-told : goal.returns-clause-told
returns-clause-told c = λ k h.
    let ws = c.words.result.now in
    let a = c.args.self.now in
    let new = c.remove.new.from in
    let long : length new ≡ a.settled.len = omega (arith, a.settled.ok.0, c.remove.ensures.long, ap (λ (xs : List ℕ). length xs) c.as_mut_slice.ensures.value) in
    let left : word_bit new k ≡ true = subst (λ (xs : List ℕ). word_bit xs k ≡ true) (with_items_is a.settled new long) h in
    let w = left_of (word_bit a.settled.items k) (word_bit ws k) (word_bit new k) (c.remove.ensures.exact k ∙ ap (λ (xs : List ℕ). word_bit xs k && not (word_bit ws k)) c.as_mut_slice.ensures.value) left in
    (w.0, λ reads. w.1 (held_bit a.readers.bits ws (the_set a.readers c.args.l) k c.words.ensures.holds reads))

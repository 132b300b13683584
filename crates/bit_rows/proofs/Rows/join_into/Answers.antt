use Rattle.std.proofs.Common.{◌*◌, ◌+◌, ◌≡◌, ◌∙◌, arith, length, ap, sym, subst, slice_range}
use Rattle.std.specs.Vec.{with_items}
use Rattle.bit_rows.specs.Sets.{union}
use Rattle.bit_rows.specs.Tables.{the_set, with_set}
use Rattle.bit_rows.specs.Words.{row_words, IsJoinedAt, AreWords}
use Rattle.bit_rows.proofs.TableLemmas.{join_same}
use Rattle.bit_rows.proofs.LayoutLemmas.{held_by, row_in, size_of, size_kept, size_known, row_words_are, row_words_range, rows_apart}
use Rattle.bit_rows.proofs.JoinLemmas.{IsRowJoined, row_join, join_in, row_are_words}
use Rattle.bit_rows.proofs.Rows.join_into.Goals as goal
use Rattle.bit_rows.proofs.Rows.join_into.Goals.{After-join_within}

pub returns-then-to-from-clause-joined : goal.returns-then-to-from-clause-joined
returns-then-to-from-clause-joined c =
    let t = c.args.self.now in
    subst (λ f. t ≡ with_set t c.args.to (union (the_set t c.args.to) (the_set t f))) c.if-to-from.true (sym (join_same t c.args.to))

pub returns-then-to-from-clause-size : goal.returns-then-to-from-clause-size
returns-then-to-from-clause-size c = size_known (held_by c.self.invariant c.self.view_is)

pub join_within-requires-clause-apart : goal.join_within-requires-clause-apart
join_within-requires-clause-apart c = rows_apart c.self.inside.width c.args.to c.args.from c.if-to-from.false

pub join_within-requires-clause-to_in : goal.join_within-requires-clause-to_in
join_within-requires-clause-to_in c = omega (arith, ap length c.as_mut_slice.ensures.value, row_in (held_by c.self.invariant c.self.view_is) c.args.to c.requires.to_in)

pub join_within-requires-clause-from_in : goal.join_within-requires-clause-from_in
join_within-requires-clause-from_in c = omega (arith, ap length c.as_mut_slice.ensures.value, row_in (held_by c.self.invariant c.self.view_is) c.args.from c.requires.from_in)

-- the words after the call
joined : (c : After-join_within) → IsRowJoined c.self.inside.bits c.self.inside.width c.self.inside.count c.args.self.now c.args.to (the_set c.args.self.now c.args.from) c.join_within.result (with_items c.self.inside.words c.join_within.new.words).items
joined c =
    let a = c.self.inside in
    let held = held_by c.self.invariant c.self.view_is in
    let size = size_of held in
    let read = c.as_mut_slice.result.now in
    let was = c.as_mut_slice.ensures.value in
    let call = c.join_within.ensures in
    let row = row_words_are held c.args.from c.requires.from_in in
    let part : slice_range read (c.args.from * a.width) (c.args.from * a.width + a.width) ≡ row_words a.width a.words.items c.args.from =
    ap (λ ws. slice_range ws (c.args.from * a.width) (c.args.from * a.width + a.width)) was ∙ row_words_range a.words.items a.width c.args.from in
    let at = subst (λ from. IsJoinedAt (c.args.to * a.width) from read c.join_within.new.words) part call.joined in
    join_in a.words c.join_within.new.words (omega (arith, ap length was, at.long))
    (row_join held read c.join_within.new.words (row_words a.width a.words.items c.args.from) c.args.to (the_set c.args.self.now c.args.from) c.join_within.result c.requires.to_in was at
    (omega (arith, row.width_is)) (λ i past. row.clean i (omega (arith, size.bits_are))) row.full row.each
    call.words (row_are_words a.words.items a.width c.args.from (subst AreWords was call.words)) call.changed)

pub invariant_of-self : goal.invariant_of-self
invariant_of-self c = (joined (goal.at.invariant_of-self c).After-join_within).laid

pub returns-clause-joined : goal.returns-clause-joined
returns-clause-joined c = (joined (goal.at.returns-clause-joined c).After-join_within).joined

pub returns-clause-changed : goal.returns-clause-changed
returns-clause-changed c = (joined (goal.at.returns-clause-changed c).After-join_within).told

pub returns-clause-grown : goal.returns-clause-grown
returns-clause-grown c = (joined (goal.at.returns-clause-grown c).After-join_within).grown

pub returns-clause-size : goal.returns-clause-size
returns-clause-size c = size_kept (held_by c.self.invariant c.self.view_is) (with_items c.self.inside.words c.join_within.new.words).items

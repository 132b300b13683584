use Rattle.std.proofs.Common.{arith, length, ap, sym, subst, ◌≡◌, ◌∙◌, ◌*◌, ◌+◌, slice_range}
use Rattle.bit_rows.specs.Words.{row_words, set_of, IsClean}
use Rattle.bit_rows.proofs.LayoutLemmas.{held_by, row_in, row_words_are, row_words_range}
use Rattle.bit_rows.proofs.Rows.words.Goals as goal
use Rattle.bit_rows.proofs.Rows.words.Goals.{After-part}

pub part-requires : goal.part-requires
part-requires c = omega (arith, ap length c.as_slice.ensures.value, row_in (held_by c.self.invariant c.self.view_is) c.args.row c.requires)

-- the result is the words of the row
is_row : (c : After-part) → c.part.result.now ≡ row_words c.self.inside.width c.self.inside.words.items c.args.row
is_row c =
    let a = c.self.inside in
    c.part.ensures
    ∙ ap (λ ws. slice_range ws (c.args.row * a.width) (c.args.row * a.width + a.width)) c.as_slice.ensures.value
    ∙ row_words_range a.words.items a.width c.args.row

pub returns-clause-len : goal.returns-clause-len
returns-clause-len c = ap length (is_row c) ∙ (row_words_are (held_by c.self.invariant c.self.view_is) c.args.row c.requires).long

pub returns-clause-holds : goal.returns-clause-holds
returns-clause-holds c = ap (set_of c.args.self.now.bits) (is_row c) ∙ (row_words_are (held_by c.self.invariant c.self.view_is) c.args.row c.requires).holds

pub returns-clause-clean : goal.returns-clause-clean
returns-clause-clean c = subst (IsClean c.args.self.now.bits) (sym (is_row c)) (row_words_are (held_by c.self.invariant c.self.view_is) c.args.row c.requires).clean

use Rattle.std.proofs.Common.{arith, ap, ◌∙◌, ◌*◌, ◌+◌, ◌/◌, ◌%◌, eqb}
use Rattle.std.proofs.lemmas.Nat.Bits.{shr_and_one}
use Rattle.std.proofs.lemmas.List.{get_or_read}
use Rattle.std.specs.Int.{bit_at}
use Rattle.bit_rows.proofs.LayoutLemmas.{held_by, place_in, has_is}
use Rattle.bit_rows.proofs.Rows.has.Goals as goal

pub index-word-requires : goal.index-word-requires
index-word-requires c =
    let a = c.self.inside in
    let held = held_by c.self.invariant c.self.view_is in
    omega (arith, a.words.ok.0, place_in held c.args.row c.args.bit c.requires.row_in c.requires.bit_in)

pub returns : goal.returns
returns c =
    let a = c.self.inside in
    let held = held_by c.self.invariant c.self.view_is in
    let place = place_in held c.args.row c.args.bit c.requires.row_in c.requires.bit_in in
    let read = get_or_read a.words.items (c.args.row * a.width + c.args.bit / 64) _ place c.index-word.ensures 0 in
    ap (λ x. eqb x 1) (shr_and_one c.index-word.result.now (c.args.bit % 64))
    ∙ ap (λ x. eqb (bit_at x (c.args.bit % 64)) 1) read
    ∙ has_is held c.args.row c.args.bit c.requires.row_in c.requires.bit_in

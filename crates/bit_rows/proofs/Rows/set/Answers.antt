use Rattle.std.proofs.Common.{arith, true, set, ◌+◌, ◌*◌, ◌/◌, ◌%◌, ◌^◌}
use Rattle.std.proofs.lemmas.List.{get_or_read}
use Rattle.std.specs.Int.Bits.{bit_or}
use Rattle.bit_rows.specs.Tables.{the_set, with_set}
use Rattle.bit_rows.proofs.LayoutLemmas.{AreWordsOf, held_by, place_in, bit_written, size_kept}
use Rattle.bit_rows.proofs.Rows.set.Goals as goal
use Rattle.bit_rows.proofs.Rows.set.Goals.{After-index_mut}

pub index_mut-requires : goal.index_mut-requires
index_mut-requires c =
    let a = c.self.inside in
    omega (arith, a.words.ok.0, place_in (held_by c.self.invariant c.self.view_is) c.args.row c.args.bit c.requires.row_in c.requires.bit_in)

-- the words after the call hold the table with the number
added : (c : After-index_mut) → AreWordsOf c.self.inside.bits c.self.inside.width c.self.inside.count (set c.self.inside.words.items (c.args.row * c.self.inside.width + c.args.bit / 64) (bit_or c.index_mut.result.now (1 * 2 ^ (c.args.bit % 64) % 2 ^ 64))) (with_set c.args.self.now c.args.row (set (the_set c.args.self.now c.args.row) c.args.bit true))
added c =
    let a = c.self.inside in
    let held = held_by c.self.invariant c.self.view_is in
    let place = place_in held c.args.row c.args.bit c.requires.row_in c.requires.bit_in in
    let read = get_or_read a.words.items (c.args.row * a.width + c.args.bit / 64) _ place c.index_mut.ensures.value 0 in
    bit_written held c.args.row c.args.bit _ c.requires.row_in c.requires.bit_in read

pub invariant_of-self : goal.invariant_of-self
invariant_of-self c = (added (goal.at.invariant_of-self c).After-index_mut).laid

pub returns-clause-added : goal.returns-clause-added
returns-clause-added c = (added (goal.at.returns-clause-added c).After-index_mut).view_is

pub returns-clause-size : goal.returns-clause-size
returns-clause-size c = size_kept (held_by c.self.invariant c.self.view_is) _

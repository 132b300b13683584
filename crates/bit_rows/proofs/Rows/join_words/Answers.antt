use Rattle.std.proofs.Common.{arith, length, ap}
use Rattle.std.specs.Vec.{with_items}
use Rattle.bit_rows.specs.Words.{set_of}
use Rattle.bit_rows.proofs.WordLemmas.{has-set_of, length-set_of}
use Rattle.bit_rows.proofs.LayoutLemmas.{held_by, row_in, size_of, size_kept}
use Rattle.bit_rows.proofs.JoinLemmas.{IsRowJoined, row_join, join_in}
use Rattle.bit_rows.proofs.Rows.join_words.Goals as goal
use Rattle.bit_rows.proofs.Rows.join_words.Goals.{After-join_at}

pub join_at-requires : goal.join_at-requires
join_at-requires c =
    let held = held_by c.self.invariant c.self.view_is in
    let size = size_of held in
    omega (arith, ap length c.as_mut_slice.ensures.value, size.bits_are, row_in held c.args.to c.requires.row_in)

-- the words after the call
joined : (c : After-join_at) → IsRowJoined c.self.inside.bits c.self.inside.width c.self.inside.count c.args.self.now c.args.to (set_of c.args.self.now.bits c.args.words.now) c.join_at.result (with_items c.self.inside.words c.join_at.new.words).items
joined c =
    let held = held_by c.self.invariant c.self.view_is in
    let size = size_of held in
    let bits = c.args.self.now.bits in
    let from = c.args.words.now in
    let call = c.join_at.ensures in
    let was = c.as_mut_slice.ensures.value in
    join_in c.self.inside.words c.join_at.new.words (omega (arith, ap length was, call.joined.long))
    (row_join held c.as_mut_slice.result.now c.join_at.new.words from c.args.to (set_of bits from) c.join_at.result c.requires.row_in was call.joined
    (omega (arith, size.bits_are)) (λ i past. c.requires.clean i (omega (arith, size.bits_are)))
    (omega (arith, length-set_of bits from, size.bits_are)) (λ i h. has-set_of bits from i (omega (arith, size.bits_are)))
    call.words (λ k. (c.type_inv.words k).fits) call.changed)

pub invariant_of-self : goal.invariant_of-self
invariant_of-self c = (joined (goal.at.invariant_of-self c).After-join_at).laid

pub returns-clause-joined : goal.returns-clause-joined
returns-clause-joined c = (joined (goal.at.returns-clause-joined c).After-join_at).joined

pub returns-clause-changed : goal.returns-clause-changed
returns-clause-changed c = (joined (goal.at.returns-clause-changed c).After-join_at).told

pub returns-clause-grown : goal.returns-clause-grown
returns-clause-grown c = (joined (goal.at.returns-clause-grown c).After-join_at).grown

pub returns-clause-size : goal.returns-clause-size
returns-clause-size c = size_kept (held_by c.self.invariant c.self.view_is) (with_items c.self.inside.words c.join_at.new.words).items

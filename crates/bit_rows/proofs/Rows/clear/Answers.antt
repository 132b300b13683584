use Rattle.std.proofs.Common.{arith, length, ap, subst, replicate, false, ◌*◌}
use Rattle.std.specs.Vec.{with_items}
use Rattle.bit_rows.specs.Tables.{with_set}
use Rattle.bit_rows.specs.Words.{IsClearedAt}
use Rattle.bit_rows.proofs.LayoutLemmas.{AreWordsOf, held_by, held_in, row_in, row_cleared, size_kept}
use Rattle.bit_rows.proofs.Rows.clear.Goals as goal
use Rattle.bit_rows.proofs.Rows.clear.Goals.{After-clear}

pub clear-requires : goal.clear-requires
clear-requires c = omega (arith, ap length c.as_mut_slice.ensures.value, row_in (held_by c.self.invariant c.self.view_is) c.args.row c.requires)

-- the words after the call hold the table with an empty row
cleared : (c : After-clear) → AreWordsOf c.self.inside.bits c.self.inside.width c.self.inside.count (with_items c.self.inside.words c.clear.new.words).items (with_set c.args.self.now c.args.row (replicate c.args.self.now.bits false))
cleared c =
    let a = c.self.inside in
    let was = c.as_mut_slice.ensures.value in
    let parts = subst (λ ws. IsClearedAt (c.args.row * a.width) a.width ws c.clear.new.words) was c.clear.ensures in
    held_in a.words c.clear.new.words parts.long (row_cleared (held_by c.self.invariant c.self.view_is) c.clear.new.words c.args.row c.requires parts)

pub invariant_of-self : goal.invariant_of-self
invariant_of-self c = (cleared (goal.at.invariant_of-self c).After-clear).laid

pub returns-clause-cleared : goal.returns-clause-cleared
returns-clause-cleared c = (cleared (goal.at.returns-clause-cleared c).After-clear).view_is

pub returns-clause-size : goal.returns-clause-size
returns-clause-size c = size_kept (held_by c.self.invariant c.self.view_is) (with_items c.self.inside.words c.clear.new.words).items

use Rattle.std.proofs.Common.{ℕ, length, get_or, arith}
use Rattle.std.proofs.lemmas.List.{get_or_default}
use Rattle.rule_closure.proofs.SetLemmas.{has_in_range}
use Rattle.reaching_defs.proofs.ListingLemmas.{at_place, left_begin, left_less, left_none}
use Rattle.reaching_defs.proofs.listed_set.unmark.Goals as goal

pub loop-w-init : goal.loop-w-init
loop-w-init c = left_begin c.args.members.now c.args.marks.now c.requires

pub bounds-marks-w : goal.bounds-marks-w
bounds-marks-w c =
    let members = c.args.members.now in
    let at = c.loop-w.w-index in
    let w : ℕ = get_or members at 0 in
    let low = has_in_range c.args.marks.now w ((c.requires w).1 (at_place members at c.loop-w-test.true)) in
    omega (arith, low, c.loop-w.invariant.size)

pub loop-w-preserved : goal.loop-w-preserved
loop-w-preserved c =
    let members = c.args.members.now in
    let at = c.loop-w.w-index in
    let w : ℕ = get_or members at 0 in
    left_less (length c.args.marks.now) members at w c.loop-w.marks c.loop-w.invariant c.loop-w-test.true (get_or_default members at w 0 c.loop-w-test.true)

pub returns : goal.returns
returns c = left_none (length c.args.marks.now) c.args.members.now c.loop-w.w-index c.loop-w.marks c.loop-w.invariant (omega arith)

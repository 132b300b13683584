use Rattle.std.proofs.Common.{get_or, refl, arith}
use Rattle.reaching_defs.proofs.HeldLemmas.{and_small, meet_here, none_meet_more}
use Rattle.reaching_defs.proofs.definition.meet.Goals as goal

pub returns-then-words-j-ne0 : goal.returns-then-words-j-ne0
returns-then-words-j-ne0 c =
    let held = c.args.held.now in
    let words = c.args.words.now in
    let row = c.args.row.now in
    let j = c.loop-j.j in
    let fits = (c.type_inv.words j).fits in
    (λ h. meet_here held words row j c.loop-j-test.true (omega (arith, c.if-words-j-ne0.true)) (and_small (get_or words j 0) (get_or row (get_or held j 0) 0) fits), λ m. refl)

pub loop-j-preserved : goal.loop-j-preserved
loop-j-preserved c = none_meet_more c.args.held.now c.args.words.now c.args.row.now c.loop-j.j c.if-words-j-ne0.false c.loop-j.invariant

use Rattle.std.proofs.Common.{◌≡◌, ℕ, get_or, arith}
use Rattle.std.proofs.lemmas.List.{get_or_default}
use Rattle.reaching_defs.proofs.EdgeLemmas.{pushed_more, pushed_end}
use Rattle.reaching_defs.proofs.ListingLemmas.{at_place}
use Rattle.reaching_defs.proofs.from_vertex.push_edges.Goals as goal

pub overflow_add-base : goal.overflow_add-base
overflow_add-base c =
    let w : ℕ = get_or c.args.targets.now c.loop-w.w-index 0 in
    omega (arith, c.requires.few w (at_place c.args.targets.now c.loop-w.w-index c.loop-w-test.true))

pub loop-w-preserved : goal.loop-w-preserved
loop-w-preserved c =
    let targets = c.args.targets.now in
    let at = c.loop-w.w-index in
    let w : ℕ = get_or targets at 0 in
    let is : get_or targets at w ≡ w = get_or_default targets at w 0 c.loop-w-test.true in
    rw c.in_ok-push.ensures.items (pushed_more c.args.v c.args.base targets c.args.found.now.items at w c.loop-w.found.items c.loop-w.invariant c.requires.order c.requires.before c.loop-w-test.true is)

pub returns-clause-exact : goal.returns-clause-exact
returns-clause-exact c = pushed_end c.args.v c.args.base c.args.targets.now c.args.found.now.items c.loop-w.w-index _ c.loop-w.found.items c.loop-w.invariant (omega arith)

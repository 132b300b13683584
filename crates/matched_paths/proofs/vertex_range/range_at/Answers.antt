use Rattle.std.proofs.Common.{sym, ◌∙◌, arith}
use Rattle.matched_paths.proofs.RangeLaws.{run_begins, run_goes, run_whole, run_apart}
use Rattle.matched_paths.proofs.vertex_range.range_at.Goals as goal

pub loop-last-init : goal.loop-last-init
loop-last-init c = run_begins c.args.vertices.now c.args.first _ c.requires.inside

pub loop-last-smaller : goal.loop-last-smaller
loop-last-smaller c =
    let goes = (run_goes c.args.vertices.now c.args.first c.loop-last.last _ c.loop-last.invariant (sym c.is_of.ensures ∙ c.loop-last-test.true)).inside in
    omega (arith, goes)

pub loop-last-preserved : goal.loop-last-preserved
loop-last-preserved c = run_goes c.args.vertices.now c.args.first c.loop-last.last _ c.loop-last.invariant (sym c.is_of.ensures ∙ c.loop-last-test.true)

pub returns-clause-whole : goal.returns-clause-whole
returns-clause-whole c =
    run_whole c.args.vertices.now c.args.first c.loop-last.last _ c.requires.consecutive c.requires.apart c.loop-last.invariant (sym c.is_of.ensures ∙ c.loop-last-test.false)

pub returns-clause-apart : goal.returns-clause-apart
returns-clause-apart c =
    run_apart c.args.vertices.now c.args.first c.loop-last.last _ c.requires.consecutive c.requires.apart c.loop-last.invariant (sym c.is_of.ensures ∙ c.loop-last-test.false)

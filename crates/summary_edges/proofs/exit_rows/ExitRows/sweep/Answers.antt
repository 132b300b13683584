use Rattle.std.proofs.Common.{◌-◌, get_or, sym, ap, ◌∙◌, arith}
use Rattle.dep_model.specs.Facts.{HoldsFact}
use Rattle.summary_edges.proofs.FillLaws.{sweep_begins, sweep_skips, sweep_takes}
use Rattle.summary_edges.proofs.exit_rows.ExitRows.sweep.Goals as goal

pub loop-vertex-init : goal.loop-vertex-init
loop-vertex-init c = sweep_begins c.args.g.now (HoldsFact c.args.g.now c.args.known.now) c.args.part c.args.self.now c.requires.filling

pub take-more-requires-clause-filling : goal.take-more-requires-clause-filling
take-more-requires-clause-filling c = c.loop-vertex.invariant.filling

pub loop-vertex-preserved-then-fresh : goal.loop-vertex-preserved-then-fresh
loop-vertex-preserved-then-fresh c =
    let at = c.loop-vertex.vertex in
    let some = c.loop-vertex-test.true in
    let e = c.take-more.ensures in
    sweep_takes c.args.g.now (HoldsFact c.args.g.now c.args.known.now) c.args.part c.args.self.now c.loop-vertex.self c.take-more.new.self at (at - 1) c.loop-vertex.grows c.take-more.result
    c.loop-vertex.invariant (omega (arith, some)) (omega (arith, some)) e.filling e.shape e.grown e.taken

pub loop-vertex-preserved : goal.loop-vertex-preserved
loop-vertex-preserved c =
    let at = c.loop-vertex.vertex in
    let some = c.loop-vertex-test.true in
    sweep_skips c.args.g.now (HoldsFact c.args.g.now c.args.known.now) c.args.part c.args.self.now c.loop-vertex.self at (at - 1) c.loop-vertex.grows
    c.loop-vertex.invariant (omega (arith, some)) (omega (arith, some))
    (ap (get_or c.loop-vertex.self.fresh.items (at - 1 - c.args.part.range.first)) (sym c.if-fresh.false) ∙ sym c.index-fresh.ensures ∙ c.if-fresh.false)

pub returns-clause-filling : goal.returns-clause-filling
returns-clause-filling c = c.loop-vertex.invariant.filling

pub returns-clause-shape : goal.returns-clause-shape
returns-clause-shape c = c.loop-vertex.invariant.shape

pub returns-clause-grown : goal.returns-clause-grown
returns-clause-grown c = c.loop-vertex.invariant.grown

pub returns-clause-done : goal.returns-clause-done
returns-clause-done c = λ none v inside.
    let ended = c.loop-vertex-test.false in
    let low = inside.0 in
    c.loop-vertex.invariant.down none v (omega (arith, ended, low)) inside.1

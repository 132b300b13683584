use Rattle.std.proofs.Common.{sym, subst}
use Rattle.std.proofs.lemmas.Result.{IfOk-weaker}
use Rattle.slicer_top.specs.Chops.{IsChopText}
use Rattle.slicer_top.specs.Slices.{IsOneText}
use Rattle.slicer_top.proofs.ChopLaws.{chop_text, numbers_inside}
use Rattle.slicer_top.proofs.chops.chop_text.Goals as goal

pub chop_set-requires-clause-facts : goal.chop_set-requires-clause-facts
chop_set-requires-clause-facts c = c.facts.ensures c.graph-graph.result.now c.graph-graph.ensures.graph

pub chop_set-requires-clause-from_in : goal.chop_set-requires-clause-from_in
chop_set-requires-clause-from_in c =
    numbers_inside c.args.engine.now c.graph-graph.result.now c.args.first.line c.in_ok-from.from.items c.as_slice.result.now c.graph-graph.ensures.graph c.in_ok-from.ensures c.as_slice.ensures.value

pub chop_set-requires-clause-to_in : goal.chop_set-requires-clause-to_in
chop_set-requires-clause-to_in c =
    numbers_inside c.args.engine.now c.graph-graph.result.now c.args.second.line c.in_ok-to.to.items c.as_slice-2.result.now c.graph-graph.ensures.graph c.in_ok-to.ensures c.as_slice-2.ensures.value

pub returns : goal.returns
returns c =
    let p = c.args.engine.now in
    let first = c.args.first.line in
    let second = c.args.second.line in
    let whole : IsChopText p first second c.in_ok-text.text =
    chop_text p c.program.result.now c.locations.result.now c.graph-graph.result.now c.in_ok-set.set c.in_ok-text.text c.program.ensures c.locations.ensures c.graph-graph.ensures.graph c.in_ok-text.ensures c.in_ok-set.ensures.size
    first second c.in_ok-from.from.items c.as_slice.result.now c.in_ok-to.to.items c.as_slice-2.result.now
    c.in_ok-from.ensures c.as_slice.ensures.value c.in_ok-to.ensures c.as_slice-2.ensures.value c.in_ok-set.ensures.exact in
    IfOk-weaker c.alone.result _ _ (λ texts alone. subst (IsOneText (IsChopText p first second)) (sym alone) whole) c.alone.ensures

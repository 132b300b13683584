use Rattle.std.proofs.Common.{sym, subst}
use Rattle.std.proofs.lemmas.Result.{IfOk-weaker}
use Rattle.slicer_top.specs.Chops.{IsForwardText}
use Rattle.slicer_top.specs.Slices.{IsOneText}
use Rattle.slicer_top.proofs.ChopLaws.{forward_text, numbers_inside}
use Rattle.slicer_top.proofs.chops.forward_text.Goals as goal

pub forward_set-requires-clause-facts : goal.forward_set-requires-clause-facts
forward_set-requires-clause-facts c = c.facts.ensures c.graph-graph.result.now c.graph-graph.ensures.graph

pub forward_set-requires-clause-inside : goal.forward_set-requires-clause-inside
forward_set-requires-clause-inside c =
    numbers_inside c.args.engine.now c.graph-graph.result.now c.args.criterion.line c.in_ok-from.from.items c.as_slice.result.now c.graph-graph.ensures.graph c.in_ok-from.ensures c.as_slice.ensures.value

pub returns : goal.returns
returns c =
    let p = c.args.engine.now in
    let line = c.args.criterion.line in
    let whole : IsForwardText p line c.in_ok-text.text =
    forward_text p c.program.result.now c.locations.result.now c.graph-graph.result.now c.in_ok-set.set c.in_ok-text.text c.program.ensures c.locations.ensures c.graph-graph.ensures.graph c.in_ok-text.ensures c.in_ok-set.ensures.size
    line c.in_ok-from.from.items c.as_slice.result.now c.in_ok-from.ensures c.as_slice.ensures.value c.in_ok-set.ensures.exact in
    IfOk-weaker c.alone.result _ _ (λ texts alone. subst (IsOneText (IsForwardText p line)) (sym alone) whole) c.alone.ensures

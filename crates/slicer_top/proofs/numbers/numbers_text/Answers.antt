use Rattle.std.proofs.Common.{◌∙◌, ap, length, subst, sym}
use Rattle.std.proofs.lemmas.Result.{IfOk-weaker}
use Rattle.c_tree.specs.declared.program.Program.{Program}
use Rattle.slice_engine.specs.Engine.{IsKept}
use Rattle.slice_engine.specs.Slice.{HasStart, IsSlice}
use Rattle.slicer_top.specs.SliceNumbers.{IsNumbersText}
use Rattle.slicer_top.specs.Slices.{IsOneText}
use Rattle.slicer_top.proofs.Big.{numbers_are}
use Rattle.slicer_top.proofs.numbers.numbers_text.Goals as goal

pub slice_text-requires : goal.slice_text-requires
slice_text-requires c = record {
  start = subst (λ q. HasStart q c.last_criterion-criterion.result.line) (sym (c.in_ok-kept.ensures.same ∙ c.in_ok-slicing.ensures)) c.last_criterion-criterion.ensures.starts;
}

pub returns : goal.returns
returns c =
    let p = c.args.engine.now in
    let line = c.last_criterion-criterion.result.line in
    let first = c.in_ok-slicing.ensures in
    let whole : IsNumbersText p c.in_ok-line.line = record {
      graph = c.graph.result.now;
      is_graph = c.graph.ensures.graph;
      line = line;
      is_last = c.last_criterion-criterion.ensures;
      kept = c.in_ok-kept.kept;
      is_kept = subst (λ q. IsKept q line c.in_ok-kept.kept) first c.in_ok-kept.ensures.kept;
      text = c.in_ok-slice.slice;
      is_slice = subst (λ q. IsSlice q line c.in_ok-slice.slice) (c.in_ok-kept.ensures.same ∙ first) c.in_ok-slice.ensures.slice;
      is = numbers_are p c.graph.result.now c.in_ok-kept.kept c.in_ok-slice.slice c.in_ok-line.line _ _ _ _ _
          (c.len.ensures ∙ ap (λ (q : Program). length q.functions) c.program-program.ensures) (ap (λ (q : Program). q.statements) c.program-program.ensures)
          c.len-2.ensures c.size_of.ensures (ap length c.bytes.ensures) c.in_ok-line.ensures;
    } in
    IfOk-weaker c.alone.result _ _ (λ texts alone. subst (IsOneText (IsNumbersText p)) (sym alone) whole) c.alone.ensures

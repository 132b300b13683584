use Rattle.std.proofs.Common.{List, sym, subst}
use Rattle.std.specs.Prelude.{All}
use Rattle.slice_batch.specs.Batch.{AreTexts}
use Rattle.slice_engine.specs.Slice.{HasStart}
use Rattle.slice_engine.specs.declared.engine.Criterion.{Criterion}
use Rattle.slicer_top.proofs.CriteriaLaws.{all_start, are_slices}
use Rattle.slicer_top.proofs.slicing.slices_at.Goals as goal

pub slices-requires-clause-starts : goal.slices-requires-clause-starts
slices-requires-clause-starts g c κs within =
    subst (λ (list : List Criterion). All (λ (x : Criterion). HasStart c.args.engine.now x.line) list) (sym c.as_slice.ensures.value)
    (all_start c.args.engine.now c.args.lines.now c.in_ok-criteria.criteria.items c.in_ok-criteria.ensures)

pub returns : goal.returns
returns g c =
    are_slices c.args.engine.now c.args.lines.now c.in_ok-criteria.criteria.items c.in_ok-texts.texts.items c.in_ok-criteria.ensures
    (subst (λ list. AreTexts c.args.engine.now list c.in_ok-texts.texts.items) c.as_slice.ensures.value c.in_ok-texts.ensures)

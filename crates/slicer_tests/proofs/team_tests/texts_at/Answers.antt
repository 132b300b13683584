use Rattle.std.proofs.Common.{[], ◌∷◌, sym, subst}
use Rattle.std.proofs.lemmas.List.Elements.{All-cons, All-nil}
use Rattle.slice_engine.specs.declared.engine.Criterion.{Criterion}
use Rattle.slice_engine.specs.Slice.{HasStart}
use Rattle.slicer_tests.proofs.team_tests.texts_at.Goals as goal

pub slices-requires-clause-starts : goal.slices-requires-clause-starts
slices-requires-clause-starts g c κs within =
    let p = c.expect-engine.result in
    let each = λ (x : Criterion). HasStart p x.line in
    let first = c.in-Some-Some.first in
    let second = c.in-Some-Some.second in
    All-cons each first (second ∷ []) (subst (HasStart p) (sym c.in-Some-Some.ensures.0) c.in-Some-Some.ensures.1)
    (All-cons each second [] (subst (HasStart p) (sym c.in-Some-Some.ensures'.0) c.in-Some-Some.ensures'.1) (All-nil each))

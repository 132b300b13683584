use Rattle.std.proofs.Common.{◌≡◌, Some, slice_get, sym, subst}
use Rattle.summary_edges.proofs.working.work_with.Goals as goal

pub new-requires : goal.new-requires
new-requires g c = record { parts = λ i p at. (c.in_ok-parts.ensures.each i p (subst (λ ps. slice_get ps i ≡ Some p) c.as_slice.ensures.value at)).part }

pub draw_all-requires-clause-each : goal.draw_all-requires-clause-each
draw_all-requires-clause-each g c = λ k p at.
    let here : slice_get c.in_ok-parts.parts.items k ≡ Some p = subst (λ ps. slice_get ps k ≡ Some p) c.as_slice-2.ensures.value at in
    (c.in_ok-parts.ensures.each k p here, c.in_ok-table.ensures k p (subst (λ ps. slice_get ps k ≡ Some p) (sym c.as_slice.ensures.value) here))

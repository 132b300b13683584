use Rattle.std.proofs.Common.{◌<◌, ℕ, All, Contains}
use Rattle.summary_edges.proofs.agenda.all_places.Given as goal

abbrev pub invariant-loop-place : goal.invariant-loop-place
invariant-loop-place l = All (λ p. p < l.functions) l.places.items × ((p : ℕ) → p < l.place → Contains l.places.items p)

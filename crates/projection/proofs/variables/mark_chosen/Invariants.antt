use Rattle.std.proofs.Common.{◌≡◌, ℕ, ◌||◌, drop}
use Rattle.bit_rows.specs.Sets.{has}
use Rattle.projection.specs.Kept.{chosen}
use Rattle.projection.specs.KeptVertices.{is_among}
use Rattle.projection.proofs.variables.mark_chosen.Given as goal

abbrev pub invariant-loop-place : goal.invariant-loop-place
invariant-loop-place l =
    (x : ℕ) → (has l.kept.items x || is_among (chosen (has l.places) l.place (drop l.place l.list)) x) ≡ (has l.initial.kept.items x || is_among (chosen (has l.places) 0 l.list) x)

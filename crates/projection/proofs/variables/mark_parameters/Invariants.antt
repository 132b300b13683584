use Rattle.std.proofs.Common.{◌≡◌, ℕ, ◌||◌, drop}
use Rattle.bit_rows.specs.Sets.{has}
use Rattle.projection.specs.KeptVertices.{is_taken_still}
use Rattle.kept_numbers.specs.Pairs.{marked}
use Rattle.projection.proofs.variables.mark_parameters.Given as goal

abbrev pub invariant-loop-number : goal.invariant-loop-number
invariant-loop-number l =
    (x : ℕ) → (has l.kept.items x || is_taken_still (has l.parts.functions.items) (marked l.parts.parameters) l.number (drop l.number l.list) x) ≡ (has l.initial.kept.items x || is_taken_still (has l.parts.functions.items) (marked l.parts.parameters) 0 l.list x)

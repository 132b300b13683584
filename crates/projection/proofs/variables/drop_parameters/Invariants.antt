use Rattle.std.proofs.Common.{◌≡◌, ℕ, ◌&&◌, not, drop}
use Rattle.bit_rows.specs.Sets.{has}
use Rattle.projection.specs.KeptVertices.{is_taken}
use Rattle.projection.proofs.variables.drop_parameters.Given as goal

abbrev pub invariant-loop-function : goal.invariant-loop-function
invariant-loop-function l =
    (x : ℕ) → (not (is_taken (drop l.function-index l.list) x) && has l.kept.items x) ≡ (not (is_taken l.list x) && has l.initial.kept.items x)

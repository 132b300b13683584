use Rattle.std.proofs.Common.{◌≡◌, ℕ, ◌&&◌, not, drop}
use Rattle.bit_rows.specs.Sets.{has}
use Rattle.projection.specs.KeptVertices.{is_among}
use Rattle.projection.proofs.variables.drop_all.Given as goal

abbrev pub invariant-loop-var : goal.invariant-loop-var
invariant-loop-var l =
    (x : ℕ) → (not (is_among (drop l.var-index l.list) x) && has l.kept.items x) ≡ (not (is_among l.list x) && has l.initial.kept.items x)

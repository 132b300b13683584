use Rattle.std.proofs.Common.{◌≡◌, ℕ, ◌||◌, drop}
use Rattle.bit_rows.specs.Sets.{has}
use Rattle.c_language.specs.Names.{any_names}
use Rattle.projection.specs.Kept.{chosen}
use Rattle.projection.proofs.referring.mark_arguments.Given as goal

abbrev pub invariant-loop-place : goal.invariant-loop-place
invariant-loop-place l =
    (x : ℕ) → (has l.used.items x || any_names (chosen (has l.kept) l.place (drop l.place l.args)) x) ≡ (has l.initial.used.items x || any_names (chosen (has l.kept) 0 l.args) x)

use Rattle.std.proofs.Common.{◌≡◌, ℕ, ◌||◌, drop}
use Rattle.bit_rows.specs.Sets.{has}
use Rattle.c_language.specs.Names.{any_names}
use Rattle.named_variables.proofs.mark_all.Given as goal

abbrev pub invariant-loop-e : goal.invariant-loop-e
invariant-loop-e l =
    (x : ℕ) → (has l.used.items x || any_names (drop l.e-index l.list) x) ≡ (has l.initial.used.items x || any_names l.list x)

use Rattle.std.proofs.Common.{◌≡◌, ℕ, ◌||◌, drop}
use Rattle.bit_rows.specs.Sets.{has}
use Rattle.effect_rows.specs.Taken.{functions_take}
use Rattle.effect_rows.proofs.taken.taken_variables.Given as goal

abbrev pub invariant-loop-function : goal.invariant-loop-function
invariant-loop-function l =
    (x : ℕ) → (has l.taken.items x || functions_take l.p (drop l.function-index l.p.functions) x) ≡ functions_take l.p l.p.functions x

use Rattle.std.proofs.Common.{◌≡◌, ℕ, ◌||◌, drop}
use Rattle.bit_rows.specs.Sets.{has}
use Rattle.projection.specs.Parts.{words_of}
use Rattle.projection.specs.Referring.{functions_refer}
use Rattle.projection.proofs.referring.referred_variables.Given as goal

abbrev pub invariant-loop-function : goal.invariant-loop-function
invariant-loop-function l =
    (x : ℕ) → (has l.used.items x || functions_refer (words_of l.parts) (drop l.function-index l.list) x) ≡ functions_refer (words_of l.parts) l.list x

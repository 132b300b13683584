-- Sets of variables that a walk over a tree adds to.
use Rattle.std.specs.Prelude.{◌≡◌, ℕ, List, Bool, ◌||◌}
use Rattle.bit_rows.specs.Sets.{has}

-- the second set has the members of the first, and what passes the test
abbrev pub Adds : List Bool → List Bool → (ℕ → Bool) → Type 0
Adds old new test = (x : ℕ) → has new x ≡ (has old x || test x)

-- Numbers of cells, where those above the greatest that is allowed count as one more than it.
use Rattle.std.specs.Prelude.{ℕ, Bool, true, false, List, nat_lt, map}

abbrev pub capped_if : Bool → ℕ → ℕ
capped_if true n = 1048577
capped_if false n = n

-- the number, or 1,048,577 where it is above 1,048,576
abbrev pub capped : ℕ → ℕ
capped n = capped_if (nat_lt 1048576 n) n

abbrev pub all_capped : List ℕ → List ℕ
all_capped ns = map capped ns

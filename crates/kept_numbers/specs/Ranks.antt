-- Ranks: the new numbers of those that pass a test.
use Rattle.std.specs.Prelude.{ℕ, zero, suc, Bool, if◌then◌else◌, Option, Some, None}

-- how many numbers below n pass the test
abbrev pub rank : (ℕ → Bool) → ℕ → ℕ
rank test zero = 0
rank test (suc n) = if test n then suc (rank test n) else rank test n

-- the new number of a number that passes the test
abbrev pub number_of : (ℕ → Bool) → ℕ → Option ℕ
number_of test n = if test n then Some (rank test n) else None

-- Sums over lists, and how often a number stands in one.
use Rattle.std.specs.Prelude.{◌≡◌, ℕ, zero, suc, ◌+◌, ◌≤◌, Bool, true, false, eqb, List, [], ◌∷◌}

abbrev pub one_if : Bool → ℕ
one_if true = 1
one_if false = 0

-- f of each, added up
abbrev pub total : {A : Type 0} → (A → ℕ) → List A → ℕ
total f [] = 0
total f (x ∷ xs) = f x + total f xs

-- how often a number stands in a list
abbrev pub times : ℕ → List ℕ → ℕ
times x [] = 0
times x (y ∷ ys) = one_if (eqb x y) + times x ys

abbrev pub Has : List ℕ → ℕ → Type 0
Has xs x = 1 ≤ times x xs

-- 1 where x is below n, and else 0
abbrev pub once_below : ℕ → ℕ → ℕ
once_below x zero = 0
once_below x (suc n) = once_below x n + one_if (eqb x n)

-- these are the numbers below n, each once
abbrev pub AreAllBelow : ℕ → List ℕ → Type 0
AreAllBelow n xs = (x : ℕ) → times x xs ≡ once_below x n

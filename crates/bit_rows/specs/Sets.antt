-- Sets of numbers below a bound, each a list of tests: one for each number, as many as the bound.
use Rattle.std.specs.Prelude.{◌≡◌, ℕ, Bool, true, false, ◌||◌, List, [], ◌∷◌, get_or, count_by}

-- whether a number is a member
abbrev pub has : List Bool → ℕ → Bool
has s i = get_or s i false

-- each member of the first set is a member of the second
abbrev pub IsSubset : List Bool → List Bool → Type 0
IsSubset s t = (i : ℕ) → has s i ≡ true → has t i ≡ true

-- the members of either set, where both have one bound
abbrev pub union : List Bool → List Bool → List Bool
union [] t = []
union (x ∷ s) [] = x ∷ s
union (x ∷ s) (y ∷ t) = (x || y) ∷ union s t

-- how many members a set has
abbrev pub count_of : List Bool → ℕ
count_of s = count_by (λ b. b) s

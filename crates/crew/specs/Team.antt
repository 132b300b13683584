-- Workers and what they are given.
use Rattle.std.specs.Prelude.{ℕ, List, [], ◌∷◌, ◌+◌}

-- each with the number of its worker, from n on
abbrev pub numbered : {S : Type 0} → ℕ → List S → List (ℕ × S)
numbered n [] = []
numbered n (s ∷ ss) = (n, s) ∷ numbered (n + 1) ss

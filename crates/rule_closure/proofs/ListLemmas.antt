-- What a list contains, by its head and its rest, and under a map.
use Rattle.std.proofs.Common.{◌≡◌, ℕ, zero, suc, ◌<◌, ◌⊎◌, inl, inr, List, [], ◌∷◌, length, get_or, map, Contains, refl, subst, arith}

pub contains_none : {X : Type 0} (y : X) → Contains [] y → ⊥
contains_none y h = omega (arith, h.1)

pub contains_head : {X : Type 0} (x : X) (xs : List X) → Contains (x ∷ xs) x
contains_head x xs = (0, omega arith, refl)

pub contains_cons : {X : Type 0} (x : X) (xs : List X) (y : X) → Contains xs y → Contains (x ∷ xs) y
contains_cons x xs y h = (suc h.0, omega (arith, h.1), h.2)

contains_rest : {X : Type 0} (x : X) (xs : List X) (y : X) (k : ℕ) → k < length (x ∷ xs) → get_or (x ∷ xs) k y ≡ y → (x ≡ y) ⊎ Contains xs y
contains_rest x xs y zero h e = inl e
contains_rest x xs y (suc k) h e = inr (k, omega arith, e)

pub contains_cases : {X : Type 0} (x : X) (xs : List X) (y : X) → Contains (x ∷ xs) y → (x ≡ y) ⊎ Contains xs y
contains_cases x xs y h = contains_rest x xs y h.0 h.1 h.2

-- what a mapped list contains comes from what the list contains
pub contains_map : {X Y : Type 0} (f : X → Y) (xs : List X) (y : Y) → Contains (map f xs) y → (x : X) × Contains xs x × (f x ≡ y)
contains_map f [] y h = absurd (contains_none y h)
contains_map f (x ∷ xs) y h = elim (contains_cases (f x) (map f xs) y h) [
  | inl e ↦ (x, contains_head x xs, e)
  | inr r ↦ let w = contains_map f xs y r in (w.0, contains_cons x xs w.0 w.1, w.2)
]

pub map_contains : {X Y : Type 0} (f : X → Y) (xs : List X) (x : X) → Contains xs x → Contains (map f xs) (f x)
map_contains f [] x h = absurd (contains_none x h)
map_contains f (z ∷ zs) x h = elim (contains_cases z zs x h) [
  | inl e ↦ subst (λ w. Contains (f z ∷ map f zs) (f w)) e (contains_head (f z) (map f zs))
  | inr r ↦ contains_cons (f z) (map f zs) (f x) (map_contains f zs x r)
]

-- What a list contains that is put together of one list for each element of another.
use Rattle.std.proofs.Common.{◌≡◌, inl, inr, Bool, true, false, List, [], ◌∷◌, get_or, flat_map, Contains, All, refl, sym, subst}
use Rattle.std.specs.Prelude.{if◌then◌else◌}
use Rattle.std.proofs.lemmas.List.{get_or_default}
use Rattle.std.proofs.lemmas.List.Elements.{Contains-append_left, Contains-append_right, Contains-append_cases}
use Rattle.rule_closure.proofs.ListLemmas.{contains_none, contains_head, contains_cons, contains_cases}

pub contains_flat : {X Y : Type 0} (f : X → List Y) (xs : List X) (y : Y) → Contains (flat_map f xs) y → (x : X) × Contains xs x × Contains (f x) y
contains_flat f [] y h = absurd (contains_none y h)
contains_flat f (x ∷ xs) y h = elim (Contains-append_cases (f x) (flat_map f xs) y h) [
  | inl a ↦ (x, contains_head x xs, a)
  | inr b ↦ let w = contains_flat f xs y b in (w.0, contains_cons x xs w.0 w.1, w.2)
]

pub flat_contains : {X Y : Type 0} (f : X → List Y) (xs : List X) (x : X) (y : Y) → Contains xs x → Contains (f x) y → Contains (flat_map f xs) y
flat_contains f [] x y h k = absurd (contains_none x h)
flat_contains f (z ∷ zs) x y h k = elim (contains_cases z zs x h) [
  | inl e ↦ Contains-append_left (f z) (flat_map f zs) y (subst (λ w. Contains (f w) y) (sym e) k)
  | inr r ↦ Contains-append_right (f z) (flat_map f zs) y (flat_contains f zs x y r k)
]

pub if_contains : {X : Type 0} (b : Bool) (xs : List X) (y : X) → Contains (if b then xs else []) y → (b ≡ true) × Contains xs y
if_contains true xs y h = (refl, h)
if_contains false xs y h = absurd (contains_none y h)

pub contains_if : {X : Type 0} (b : Bool) (xs : List X) (y : X) → b ≡ true → Contains xs y → Contains (if b then xs else []) y
contains_if true xs y h k = k
contains_if false xs y h k = cc

-- what is said of all that a list contains is said by index
pub all_of : {X : Type 0} (P : X → Type 0) (xs : List X) → ((x : X) → Contains xs x → P x) → All P xs
all_of P xs h = λ k d low. h (get_or xs k d) (k, low, get_or_default xs k (get_or xs k d) d low)

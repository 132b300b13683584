-- What stands in a list, and tests that hold of it.
use Rattle.std.proofs.Common.{◌≡◌, ℕ, zero, suc, ◌<◌, List, [], ◌∷◌, ◌++◌, length, get_or, Contains, Bool, true, ◌⊎◌, inl, inr, refl, ap, ◌∙◌, subst, arith, ap₂, slice_get, Some}
use Rattle.std.specs.List.{list_all, list_any}
use Rattle.std.proofs.lemmas.Bool.{and_parts, or_left, or_right}

-- of three
pub three : {A B C D : Type 0} (f : A → B → C → D) {a b : A} {c d : B} {x y : C} → a ≡ b → c ≡ d → x ≡ y → f a c x ≡ f b d y
three f {a} {b} {c} {d} {x} {y} p q r = ap (λ z. f z c x) p ∙ ap₂ (f b) q r

-- one of the list
pub data Among {A : Type 0} : List A → A → Type 0 where
  first : {x : A} {rest : List A} → Among (x ∷ rest) x
  next : {y x : A} {rest : List A} → Among rest x → Among (y ∷ rest) x

pub among_split : {A : Type 0} (xs : List A) {ys : List A} {x : A} → Among (xs ++ ys) x → Among xs x ⊎ Among ys x
among_split [] h = inr h
among_split (z ∷ xs) first = inl first
among_split (z ∷ xs) (next h) = elim (among_split xs h) [ inl l ↦ inl (next l) | inr r ↦ inr r ]

from_contains : {A : Type 0} (xs : List A) (x : A) (k : ℕ) → k < length xs → get_or xs k x ≡ x → Among xs x
from_contains [] x k lt e = absurd (omega (arith, lt))
from_contains (y ∷ xs) x zero lt e = subst (λ z. Among (y ∷ xs) z) e first
from_contains (y ∷ xs) x (suc k) lt e = next (from_contains xs x k (omega arith) e)

pub contains_among : {A : Type 0} (xs : List A) (x : A) → Contains xs x → Among xs x
contains_among xs x h = from_contains xs x h.0 h.1 h.2

-- the member at a place
pub contained_at : {A : Type 0} (xs : List A) (x : A) (k : ℕ) → k < length xs → get_or xs k x ≡ x → slice_get xs k ≡ Some x
contained_at [] x k lt e = absurd (omega (arith, lt))
contained_at (y ∷ xs) x zero lt e = ap Some e
contained_at (y ∷ xs) x (suc k) lt e = contained_at xs x k (omega arith) e

pub among_contains : {A : Type 0} {xs : List A} {x : A} → Among xs x → Contains xs x
among_contains first = (0, omega arith, refl)
among_contains (next h) = let c = among_contains h in (suc c.0, omega (arith, c.1), c.2)

pub all_hold : {A : Type 0} (test : A → Bool) {xs : List A} {x : A} → Among xs x → list_all test xs ≡ true → test x ≡ true
all_hold test (first {x} {rest}) h = (and_parts (test x) (list_all test rest) h).0
all_hold test (next {y} {x} {rest} m) h = all_hold test m (and_parts (test y) (list_all test rest) h).1

pub any_holds : {A : Type 0} (test : A → Bool) {xs : List A} {x : A} → Among xs x → test x ≡ true → list_any test xs ≡ true
any_holds test (first {x} {rest}) h = or_left (test x) (list_any test rest) h
any_holds test (next {y} {x} {rest} m) h = or_right (test y) (list_any test rest) (any_holds test m h)

-- Members of lists, one element after another.
use Rattle.std.proofs.Common.{◌≡◌, zero, suc, List, [], ◌∷◌, ◌++◌, ◌⊎◌, inl, inr, map, arith, refl, ap, Bool, true, false, sym, subst}
use Rattle.std.specs.Prelude.{ℕ, Some, Contains, slice_get, if◌then◌else◌}
use Rattle.c_language.proofs.Options.{some_same, none_there}

abbrev pub IsIn : {A : Type 0} → List A → A → Type 0
IsIn [] x = ⊥
IsIn (y ∷ ys) x = (y ≡ x) ⊎ IsIn ys x

pub in_of_contains : {A : Type 0} (xs : List A) (x : A) → Contains xs x → IsIn xs x
in_of_contains [] x (k, lt, e) = absurd (omega (arith, lt))
in_of_contains (y ∷ ys) x (zero, lt, e) = inl e
in_of_contains (y ∷ ys) x (suc k, lt, e) = inr (in_of_contains ys x (k, omega (arith, lt), e))

pub contains_of_in : {A : Type 0} (xs : List A) (x : A) → IsIn xs x → Contains xs x
contains_of_in [] x h = absurd h
contains_of_in (y ∷ ys) x (inl e) = (zero, omega arith, e)
contains_of_in (y ∷ ys) x (inr h) = let c = contains_of_in ys x h in (suc c.0, omega (arith, c.1), c.2)

pub in_of_get : {A : Type 0} (xs : List A) (k : ℕ) (x : A) → slice_get xs k ≡ Some x → IsIn xs x
in_of_get [] k x e = none_there e
in_of_get (y ∷ xs) zero x e = inl (some_same e)
in_of_get (y ∷ xs) (suc k) x e = inr (in_of_get xs k x e)

pub in_first : {A : Type 0} (xs ys : List A) (x : A) → IsIn xs x → IsIn (xs ++ ys) x
in_first [] ys x h = absurd h
in_first (y ∷ xs) ys x (inl e) = inl e
in_first (y ∷ xs) ys x (inr h) = inr (in_first xs ys x h)

pub in_second : {A : Type 0} (xs ys : List A) (x : A) → IsIn ys x → IsIn (xs ++ ys) x
in_second [] ys x h = h
in_second (y ∷ xs) ys x h = inr (in_second xs ys x h)

pub in_either : {A : Type 0} (xs ys : List A) (x : A) → IsIn (xs ++ ys) x → IsIn xs x ⊎ IsIn ys x
in_either [] ys x h = inr h
in_either (y ∷ xs) ys x (inl e) = inl (inl e)
in_either (y ∷ xs) ys x (inr h) = elim (in_either xs ys x h) [ inl t ↦ inl (inr t) | inr t ↦ inr t ]

pub if_in : {A : Type 0} (b : Bool) (xs : List A) (x : A) → IsIn (if b then xs else []) x → (b ≡ true) × IsIn xs x
if_in true xs x h = (refl, h)
if_in false xs x h = absurd h

pub in_if : {A : Type 0} (b : Bool) (xs : List A) (x : A) → b ≡ true → IsIn xs x → IsIn (if b then xs else []) x
in_if b xs x e h = subst (λ t. IsIn (if t then xs else []) x) (sym e) h

pub in_map : {A B : Type 0} (f : A → B) (xs : List A) (x : A) → IsIn xs x → IsIn (map f xs) (f x)
in_map f [] x h = absurd h
in_map f (y ∷ xs) x (inl e) = inl (ap f e)
in_map f (y ∷ xs) x (inr h) = inr (in_map f xs x h)

pub of_map : {A B : Type 0} (f : A → B) (xs : List A) (y : B) → IsIn (map f xs) y → (x : A) × IsIn xs x × (f x ≡ y)
of_map f [] y h = absurd h
of_map f (x ∷ xs) y (inl e) = (x, inl refl, e)
of_map f (x ∷ xs) y (inr h) = let t = of_map f xs y h in (t.0, inr t.1, t.2)

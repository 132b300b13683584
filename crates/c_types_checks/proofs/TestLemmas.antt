-- Tests on options, lists and names, and what they say.
use Rattle.std.proofs.Common.{◌≡◌, ◌≢◌, List, [], ◌∷◌, length, Bool, true, false, Option, Some, None, refl, sym, subst, ap, ◌∙◌, inl, inr, arith}
use Rattle.std.specs.Prelude.{◌==◌, ◌||◌, is_some, is_none, Contains, unwrap_or, bytes_eq}
use Rattle.std.specs.List.{list_any}
use Rattle.std.proofs.lemmas.Slice.Eq.{bytes_eq-Decides}
use Rattle.std.proofs.lemmas.Bool.{or_parts, eqb-true, eq-eqb}
use Rattle.c_language.specs.Words.{Bytes}
use Rattle.c_language.proofs.Lists.{contains_nil, contains_cons, contains_first, contains_later}
use Rattle.c_types_base.specs.Listing.{has_name}
use Rattle.c_types_base.proofs.PhraseLemmas.{clash}
use Rattle.c_types_base.proofs.ListingLaws.{gone}

-- there are no two values
pub same_some : {A : Type 0} {x y : A} {o : Option A} → o ≡ Some x → o ≡ Some y → x ≡ y
same_some {x} {y} is also = ap (λ o. unwrap_or o x) (sym is ∙ also)

-- nothing is no value
pub none_some : {A B : Type 0} {x : A} {o : Option A} → o ≡ None → o ≡ Some x → B
none_some {A} none some = absurd (subst (λ (o : Option A). gone o) (sym none ∙ some) tt)
  where
    gone : {A : Type 0} → Option A → Type 0
    gone None = Unit {0}
    gone (Some x) = ⊥

pub is_something : {A : Type 0} (o : Option A) → is_some o ≡ true → o ≢ None
is_something {A} o h none = clash {b = is_some o} (ap (λ (x : Option A). is_some x) none) h

pub is_nothing_too : {A : Type 0} (o : Option A) → is_none o ≡ true → o ≡ None
is_nothing_too None h = refl
is_nothing_too (Some x) h = clash refl h

pub is_something_too : {A : Type 0} (o : Option A) → is_none o ≡ false → o ≢ None
is_something_too {A} o h none = clash {b = is_none o} h (ap (λ (x : Option A). is_none x) none)

any_step : {A : Type 0} (p : A → Bool) (x : A) (xs : List A) (b : Bool) → p x ≡ b → (b || list_any p xs) ≡ true
    → (list_any p xs ≡ true → (y : A) × Contains xs y × (p y ≡ true)) → (y : A) × Contains (x ∷ xs) y × (p y ≡ true)
any_step p x xs true is h rest = (x, contains_first x xs, is)
any_step p x xs false is h rest = let found = rest h in (found.0, contains_later x found.0 xs found.1, found.2)

-- a list in which a test passes has a member that passes it
pub any_passes : {A : Type 0} (p : A → Bool) (xs : List A) → list_any p xs ≡ true → (y : A) × Contains xs y × (p y ≡ true)
any_passes p [] h = clash refl h
any_passes p (x ∷ xs) h = any_step p x xs (p x) refl h (any_passes p xs)

pub none_passes : {A : Type 0} (p : A → Bool) (xs : List A) → list_any p xs ≡ false → (y : A) → Contains xs y → p y ≡ false
none_passes p [] h y c = absurd (contains_nil y c)
none_passes {A} p (x ∷ xs) h y c = elim (contains_cons x y xs c) [
  | inl is ↦ subst (λ (z : A). p z ≡ false) is (or_parts (p x) _ h).0
  | inr c ↦ none_passes p xs (or_parts (p x) _ h).1 y c
]

pub other_names : (a b : Bytes) → bytes_eq a b ≡ false → a ≢ b
other_names a b h same = clash {b = bytes_eq a b} h ((bytes_eq-Decides a b).1 same)

pub has_name_is : (name : Bytes) (o : Option Bytes) → has_name name o ≡ true → o ≡ Some name
has_name_is name None h = clash refl h
has_name_is name (Some other) h = ap (λ (w : Bytes). Some w) ((bytes_eq-Decides other name).0 h)

pub has_name_own : (name : Bytes) → has_name name (Some name) ≡ true
has_name_own name = (bytes_eq-Decides name name).1 refl

pub is_empty : {A : Type 0} (xs : List A) → (length xs == 0) ≡ true → xs ≡ []
is_empty [] h = refl
is_empty (x ∷ xs) h = absurd (omega (arith, eqb-true (length (x ∷ xs)) 0 h))

pub is_no_empty : {A : Type 0} (xs : List A) → (length xs == 0) ≡ false → xs ≢ []
is_no_empty {A} xs h is = clash {b = length xs == 0} h (eq-eqb (length xs) 0 (ap (λ (l : List A). length l) is))

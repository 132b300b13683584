-- Members of lists, maps of lists, lists that pass a test, and the place of what passes it.
use Rattle.std.proofs.Common.{◌≡◌, zero, suc, List, [], ◌∷◌, ◌++◌, map, Bool, true, cond, Some, option_map, position, ◌⊎◌, inl, inr, refl, ap₂, ◌∙◌, ◌||◌, ap, reverse, append_assoc, ◌+◌, subst, arith}
use Rattle.std.specs.Prelude.{Contains, bytes_eq}
use Rattle.std.specs.List.{list_all, list_any}
use Rattle.std.proofs.lemmas.Bool.{and_from, and_parts}
use Rattle.std.proofs.lemmas.List.{reverse-append}
use Rattle.std.proofs.lemmas.List.Folds.{list_all-append}
use Rattle.std.proofs.lemmas.List.Sums.{sum_by-append}
use Rattle.std.proofs.lemmas.Grind.{common_steps}
use Rattle.std.proofs.lemmas.Slice.Eq.{bytes_eq-Decides}
use Rattle.c_language.specs.Words.{Bytes}
use Rattle.c_language.specs.Tokens.{is_feed, line_feeds}
use Rattle.c_language.proofs.Tests.{by_answer}

pub contains_nil : {A : Type 0} (x : A) → Contains {X = A} [] x → ⊥
contains_nil x (k, within, is) = omega (arith, within)

pub contains_cons : {A : Type 0} (a x : A) (xs : List A) → Contains (a ∷ xs) x → (a ≡ x) ⊎ Contains xs x
contains_cons a x xs (zero, within, is) = inl is
contains_cons a x xs (suc k, within, is) = inr (k, omega (arith, within), is)

pub contains_first : {A : Type 0} (a : A) (xs : List A) → Contains (a ∷ xs) a
contains_first a xs = (0, omega arith, refl)

pub contains_later : {A : Type 0} (a x : A) (xs : List A) → Contains xs x → Contains (a ∷ xs) x
contains_later a x xs (k, within, is) = (suc k, omega (arith, within), is)

-- a test that each element of two lists passes
pub all_append : {A : Type 0} (test : A → Bool) (xs ys : List A) → list_all test xs ≡ true → list_all test ys ≡ true → list_all test (xs ++ ys) ≡ true
all_append test xs ys h k = list_all-append test xs ys ∙ and_from (list_all test xs) (list_all test ys) h k

-- one that passes a test, where all pass another
pub any_passes : {X : Type 0} (test form : X → Bool) (xs : List X) → list_any test xs ≡ true → list_all form xs ≡ true → (x : X) × (test x ≡ true) × (form x ≡ true)
any_passes test form [] h a = absurd cc
any_passes test form (x ∷ xs) h a =
    let p = and_parts _ _ a in
    by_answer (test x) (λ t. (x, t, p.0)) (λ f. let g : list_any test xs ≡ true = subst (λ (b : Bool). (b || list_any test xs) ≡ true) f h in any_passes test form xs g p.1)

-- maps by functions that agree
pub maps_same : {A B : Type 0} (f g : A → B) → ((a : A) → f a ≡ g a) → (xs : List A) → map f xs ≡ map g xs
maps_same f g same [] = refl
maps_same f g same (x ∷ xs) = ap₂ (λ (b : _) (bs : List _). b ∷ bs) (same x) (maps_same f g same xs)

pub position-cons : {X : Type 0} (p : X → Bool) (x : X) (xs : List X) → position p (x ∷ xs) ≡ cond (p x) (Some 0) (option_map suc (position p xs))
position-cons p x xs = grind (arith, common_steps)

-- words that are found to be equal are the same
pub same_bytes : (a b : Bytes) → bytes_eq a b ≡ true → a ≡ b
same_bytes a b = (bytes_eq-Decides a b).0

-- what two lists that are the same begin with, and what follows
pub head_is : {A : Type 0} {x y : A} {xs ys : List A} → x ∷ xs ≡ y ∷ ys → x ≡ y
head_is e = cc

pub tail_is : {A : Type 0} {x y : A} {xs ys : List A} → x ∷ xs ≡ y ∷ ys → xs ≡ ys
tail_is e = cc

pub no_list : {A B : Type 0} {x : A} {xs : List A} → x ∷ xs ≡ [] → B
no_list e = cc

-- a list turned round, its first element first
pub reversed : {A : Type 0} (x : A) (front before : List A) → reverse (x ∷ front) ++ before ≡ reverse front ++ (x ∷ before)
reversed x front before = ap (λ (l : List _). l ++ before) (reverse-append (x ∷ []) front) ∙ append_assoc (reverse front) (x ∷ []) before

-- the line feeds of two texts
pub feeds-append : (a b : Bytes) → line_feeds (a ++ b) ≡ line_feeds a + line_feeds b
feeds-append a b = sum_by-append (λ x. cond (is_feed x) 1 0) a b

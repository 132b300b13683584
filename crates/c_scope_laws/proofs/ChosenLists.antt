-- The members of a list at kept places.
use Rattle.std.proofs.Common.{◌≡◌, ℕ, zero, suc, ◌+◌, ◌<◌, List, [], ◌∷◌, length, map, Bool, true, false, refl, sym, ap, ap₂, ◌∙◌, arith}
use Rattle.std.specs.Prelude.{if◌then◌else◌, Contains, Option, Some, option_map, option_and_then}
use Rattle.c_language.specs.ProgramOf.{collected}
use Rattle.c_language.proofs.Options.{some_same, added_there}
use Rattle.c_language.proofs.Lists.{contains_later}
use Rattle.projection.specs.Kept.{chosen}

-- where all are kept, these are all
pub chosen_all : {A : Type 0} (test : ℕ → Bool) → ((n : ℕ) → test n ≡ true) → (n : ℕ) (xs : List A) → chosen test n xs ≡ xs
chosen_all test all n [] = refl
chosen_all test all n (x ∷ xs) =
    ap (λ (b : Bool). if b then x ∷ chosen test (suc n) xs else chosen test (suc n) xs) (all n) ∙ ap (λ (ys : List _). x ∷ ys) (chosen_all test all (suc n) xs)

-- what is made of those at kept places stands at kept places
pub chosen_map : {A B : Type 0} (f : A → B) (test : ℕ → Bool) (n : ℕ) (xs : List A) → map f (chosen test n xs) ≡ chosen test n (map f xs)
chosen_map f test n [] = refl
chosen_map f test n (x ∷ xs) = by_test (test n) (chosen_map f test (suc n) xs)
  where
    by_test : (b : Bool) → map f (chosen test (suc n) xs) ≡ chosen test (suc n) (map f xs)
        → map f (if b then x ∷ chosen test (suc n) xs else chosen test (suc n) xs) ≡ (if b then f x ∷ chosen test (suc n) (map f xs) else chosen test (suc n) (map f xs))
    by_test true later = ap (λ (ys : List _). f x ∷ ys) later
    by_test false later = later

-- each of them is one of the list
pub chosen_within : {A : Type 0} (test : ℕ → Bool) (n : ℕ) (xs : List A) (y : A) → Contains (chosen test n xs) y → Contains xs y
chosen_within test n [] y c = c
chosen_within test n (x ∷ xs) y c = by_test (test n) (λ h. chosen_within test (suc n) xs y h) c
  where
    by_test : (b : Bool) → (Contains (chosen test (suc n) xs) y → Contains xs y) → Contains (if b then x ∷ chosen test (suc n) xs else chosen test (suc n) xs) y → Contains (x ∷ xs) y
    by_test true later (zero, within, is) = (0, omega arith, is)
    by_test true later (suc i, within, is) = contains_later x y xs (later (i, omega (arith, within), is))
    by_test false later h = contains_later x y xs (later h)

-- of lists of one length there are as many
pub chosen_length : {A B : Type 0} (test : ℕ → Bool) (n : ℕ) (xs : List A) (ys : List B) → length xs ≡ length ys → length (chosen test n xs) ≡ length (chosen test n ys)
chosen_length test n [] [] h = refl
chosen_length test n [] (y ∷ ys) h = absurd (omega (arith, h))
chosen_length test n (x ∷ xs) [] h = absurd (omega (arith, h))
chosen_length test n (x ∷ xs) (y ∷ ys) h = by_test (test n) (chosen_length test (suc n) xs ys (omega (arith, h)))
  where
    by_test : (b : Bool) → length (chosen test (suc n) xs) ≡ length (chosen test (suc n) ys)
        → length (if b then x ∷ chosen test (suc n) xs else chosen test (suc n) xs) ≡ length (if b then y ∷ chosen test (suc n) ys else chosen test (suc n) ys)
    by_test true later = ap suc later
    by_test false later = later

-- tests that are the same at the places of the list choose the same
pub chosen_same : {A : Type 0} (test other : ℕ → Bool) (n : ℕ) (xs : List A) → ((i : ℕ) → i < length xs → test (n + i) ≡ other (n + i)) → chosen test n xs ≡ chosen other n xs
chosen_same test other n [] same = refl
chosen_same test other n (x ∷ xs) same =
    let first : n + 0 ≡ n = omega arith in
    let here : test n ≡ other n = sym (ap test first) ∙ same 0 (omega arith) ∙ ap other first in
    let later = chosen_same test other (suc n) xs (λ i within. let e : n + suc i ≡ suc n + i = omega arith in sym (ap test e) ∙ same (suc i) (omega (arith, within)) ∙ ap other e) in
    ap₂ (λ (b : Bool) (ys : List _). if b then x ∷ ys else ys) here later

-- where all of a list are there, so are those at kept places
pub chosen_collected : {A : Type 0} (test : ℕ → Bool) (n : ℕ) (os : List (Option A)) (xs : List A) → collected os ≡ Some xs → collected (chosen test n os) ≡ Some (chosen test n xs)
chosen_collected test n [] xs at = ap (λ (ys : List _). Some (chosen test n ys)) (some_same at)
chosen_collected test n (o ∷ os) xs at =
    let m = added_there o (collected os) xs at in
    by_test (test n) m.first m.rest m.first_there (chosen_collected test (suc n) os m.rest m.rest_there) ∙ ap (λ (ys : List _). Some (chosen test n ys)) m.same
  where
    by_test : (b : Bool) (y : _) (ys : List _) → o ≡ Some y → collected (chosen test (suc n) os) ≡ Some (chosen test (suc n) ys)
        → collected (if b then o ∷ chosen test (suc n) os else chosen test (suc n) os) ≡ Some (if b then y ∷ chosen test (suc n) ys else chosen test (suc n) ys)
    by_test true y ys there later = ap₂ (λ (p : Option _) (q : Option (List _)). option_and_then (λ z. option_map (λ zs. z ∷ zs) q) p) there later
    by_test false y ys there later = later

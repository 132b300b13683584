-- A list with another item at a number, and cells in which nothing is written.
use Rattle.std.proofs.Common.{◌≡◌, ℕ, zero, suc, ◌<◌, ◌≤◌, List, [], ◌∷◌, length, map, set, get_or, replicate, true, false, true≢false, refl, sym, ap, arith}
use Rattle.std.specs.Prelude.{is_some, slice_get}
use Rattle.std.proofs.lemmas.Option.{slice_get-get_or}
use Rattle.std.proofs.lemmas.Simd.{splat_is_map}
use Rattle.c_meaning.specs.Memory.{changed}

pub changed_past : {A : Type 0} (f : A → A) (n : ℕ) (xs : List A) → length xs ≤ n → changed f n xs ≡ xs
changed_past f n [] h = refl
changed_past f zero (x ∷ xs) h = let no : ⊥ = omega (arith, h) in absurd no
changed_past f (suc n) (x ∷ xs) h = ap (λ (ys : List _). x ∷ ys) (changed_past f n xs (omega (arith, h)))

pub changed_at : {A : Type 0} (f : A → A) (n : ℕ) (xs : List A) (x : A) → n < length xs → x ≡ get_or xs n x → set xs n (f x) ≡ changed f n xs
changed_at f n [] x h is = let no : ⊥ = omega (arith, h) in absurd no
changed_at f zero (y ∷ ys) x h is = ap (λ (z : _). f z ∷ ys) is
changed_at f (suc n) (y ∷ ys) x h is = ap (λ (zs : List _). y ∷ zs) (changed_at f n ys x (omega (arith, h)) is)

-- an item that doesn't depend on what stood there
pub set_is_changed : {A : Type 0} (v : A) (n : ℕ) (xs : List A) → n < length xs → set xs n v ≡ changed (λ (x : A). v) n xs
set_is_changed v n [] h = let no : ⊥ = omega (arith, h) in absurd no
set_is_changed v zero (y ∷ ys) h = refl
set_is_changed v (suc n) (y ∷ ys) h = ap (λ (zs : List _). y ∷ zs) (set_is_changed v n ys (omega (arith, h)))

pub all_unwritten : {A B : Type 0} (ts : List A) (v : B) → replicate (length ts) v ≡ map (λ (t : A). v) ts
all_unwritten ts v = splat_is_map ts (length ts) v refl

-- an item that isn't there isn't changed
pub changed_absent : {A : Type 0} (f : A → A) (n : ℕ) (xs : List A) → is_some (slice_get xs n) ≡ false → changed f n xs ≡ xs
changed_absent f n [] e = refl
changed_absent f zero (x ∷ xs) e = absurd (true≢false e)
changed_absent f (suc n) (x ∷ xs) e = ap (λ (ys : List _). x ∷ ys) (changed_absent f n xs e)

pub length-changed : {A : Type 0} (f : A → A) (n : ℕ) (xs : List A) → length (changed f n xs) ≡ length xs
length-changed f n [] = refl
length-changed f zero (x ∷ xs) = refl
length-changed f (suc n) (x ∷ xs) = ap suc (length-changed f n xs)

pub is_there : {A : Type 0} (xs : List A) (n : ℕ) (d : A) → n < length xs → true ≡ is_some (slice_get xs n)
is_there xs n d within = sym (ap is_some (slice_get-get_or xs n d within))

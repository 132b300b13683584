-- Places in a list, and in a list that has grown by one.
use Rattle.std.proofs.Common.{◌≡◌, ℕ, zero, suc, ◌<◌, List, [], ◌∷◌, ◌++◌, length, Some, refl, ap, arith}
use Rattle.std.specs.Prelude.{slice_get}
use Rattle.c_language.proofs.Options.{none_there, some_same}

pub within : {A : Type 0} (xs : List A) (n : ℕ) (x : A) → slice_get xs n ≡ Some x → n < length xs
within [] n x e = none_there e
within (y ∷ xs) zero x e = omega arith
within (y ∷ xs) (suc n) x e = let lt = within xs n x e in omega (arith, lt)

pub there_at : {A : Type 0} (xs : List A) (n : ℕ) → n < length xs → (x : A) × (slice_get xs n ≡ Some x)
there_at [] n lt = absurd (omega (arith, lt))
there_at (y ∷ xs) zero lt = (y, refl)
there_at (y ∷ xs) (suc n) lt = there_at xs n (omega (arith, lt))

-- an item is one of those before, or the new one
pub data FrontOrLast {A : Type 0} (xs : List A) (y : A) (n : ℕ) (x : A) : Type 0 where
  front : slice_get xs n ≡ Some x → FrontOrLast xs y n x
  last : n ≡ length xs → y ≡ x → FrontOrLast xs y n x

pub front_or_last : {A : Type 0} (xs : List A) (y : A) (n : ℕ) (x : A) → slice_get (xs ++ y ∷ []) n ≡ Some x → FrontOrLast xs y n x
front_or_last [] y zero x e = last refl (some_same e)
front_or_last [] y (suc n) x e = none_there e
front_or_last (z ∷ xs) y zero x e = front e
front_or_last (z ∷ xs) y (suc n) x e = elim (front_or_last xs y n x e) [ front h ↦ front h | last p q ↦ last (ap suc p) q ]

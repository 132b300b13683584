-- Lists of what is made of the numbers from 1 on.
use Rattle.std.proofs.Common.{◌≡◌, ℕ, zero, suc, ◌+◌, ◌-◌, ◌<◌, List, [], ◌∷◌, ◌++◌, length, take, Some, refl, ap, subst, ◌∙◌, append_assoc, arith}
use Rattle.std.specs.Prelude.{slice_get}
use Rattle.std.proofs.lemmas.List.{length-append}
use Rattle.std.proofs.Math.Seq.{take-append_seam}

-- what is made of the numbers from 1 to n
abbrev pub counted : {A : Type 0} → (ℕ → A) → ℕ → List A
counted f zero = []
counted f (suc n) = counted f n ++ (f (suc n) ∷ [])

pub counted-length : {A : Type 0} (f : ℕ → A) (n : ℕ) → length (counted f n) ≡ n
counted-length f zero = refl
counted-length f (suc n) = omega (arith, length-append (counted f n) (f (suc n) ∷ []), counted-length f n)

-- the first n, the next, and what is behind it
pub record IsSplit {A : Type 0} (f : ℕ → A) (n size : ℕ) (rest : List A) : Type 0 where
  pub later : List A
  pub is : counted f size ++ rest ≡ counted f n ++ (f (suc n) ∷ later)

split_by : {A : Type 0} (f : ℕ → A) (more n size : ℕ) (rest : List A) → size ≡ suc (n + more) → IsSplit f n size rest
split_by f zero n size rest e =
    let same : suc n ≡ size = omega (arith, e) in
    subst (λ (m : ℕ). IsSplit f n m rest) same (record { later = rest; is = append_assoc (counted f n) (f (suc n) ∷ []) rest })
split_by f (suc more) n zero rest e = absurd (omega (arith, e))
split_by f (suc more) n (suc size) rest e =
    let s = split_by f more n size (f (suc size) ∷ rest) (omega (arith, e)) in
    record { later = s.later; is = append_assoc (counted f size) (f (suc size) ∷ []) rest ∙ s.is }

pub split : {A : Type 0} (f : ℕ → A) (n size : ℕ) (rest : List A) → n < size → IsSplit f n size rest
split f n size rest below = split_by f (size - suc n) n size rest (omega (arith, below))

-- the first n
pub all_taken : {A : Type 0} (f : ℕ → A) (n : ℕ) (rest : List A) → take n (counted f n ++ rest) ≡ counted f n
all_taken f n rest = subst (λ (k : ℕ). take k (counted f n ++ rest) ≡ counted f n) (counted-length f n) (take-append_seam (counted f n) rest)

pub first_taken : {A : Type 0} (f : ℕ → A) (n size : ℕ) (rest : List A) → n < size → take n (counted f size ++ rest) ≡ counted f n
first_taken f n size rest below =
    let s = split f n size rest below in
    ap (take n) s.is ∙ all_taken f n (f (suc n) ∷ s.later)

-- the one at a place
got_behind : {A : Type 0} (xs : List A) (y : A) (ys : List A) → slice_get (xs ++ (y ∷ ys)) (length xs) ≡ Some y
got_behind [] y ys = refl
got_behind (x ∷ xs) y ys = got_behind xs y ys

pub got : {A : Type 0} (f : ℕ → A) (n size : ℕ) (rest : List A) → n < size → slice_get (counted f size ++ rest) n ≡ Some (f (suc n))
got f n size rest below =
    let s = split f n size rest below in
    ap (λ (xs : List _). slice_get xs n) s.is
    ∙ subst (λ (k : ℕ). slice_get (counted f n ++ (f (suc n) ∷ s.later)) k ≡ Some (f (suc n))) (counted-length f n) (got_behind (counted f n) (f (suc n)) s.later)

-- Sums over lists, after one entry is changed or added, and how often numbers stand in lists.
use Rattle.std.proofs.Common.{◌≡◌, ℕ, zero, suc, ◌+◌, ◌-◌, ◌≤◌, List, [], ◌∷◌, ◌++◌, set, subst, sym, refl, ap, arith, eqb}
use mathlib.Core.Option.{some, some-injective, some-ne-none}
use lib.ListN.{get_elem?}
use Rattle.std.proofs.lemmas.Bool.{ne_eqb, eq-eqb}
use Rattle.crew.specs.Counts.{total, times, one_if, once_below}

module _ {A : Type 0} where
  pub total_set : (f : A → ℕ) (vs : List A) (id : ℕ) (v w : A) → get_elem? vs id ≡ some v → total f (set vs id w) + f v ≡ total f vs + f w
  total_set f [] id v w e = absurd (some-ne-none v (sym e))
  total_set f (x ∷ xs) zero v w e = let p : f x ≡ f v = ap f (some-injective x v e) in omega arith
  total_set f (x ∷ xs) (suc i) v w e = let p = total_set f xs i v w e in omega arith

  pub total_snoc : (f : A → ℕ) (vs : List A) (w : A) → total f (vs ++ w ∷ []) ≡ total f vs + f w
  total_snoc f [] w = omega arith
  total_snoc f (x ∷ xs) w = let p = total_snoc f xs w in omega arith

  pub total_has : (f : A → ℕ) (vs : List A) (id : ℕ) (v : A) → get_elem? vs id ≡ some v → f v ≤ total f vs
  total_has f [] id v e = absurd (some-ne-none v (sym e))
  total_has f (x ∷ xs) zero v e = let p : f x ≡ f v = ap f (some-injective x v e) in omega arith
  total_has f (x ∷ xs) (suc i) v e = let p = total_has f xs i v e in omega arith

  pub total_has_two : (f : A → ℕ) (vs : List A) (id : ℕ) (v both : A) (other : ℕ) (u : A) → get_elem? vs id ≡ some v → get_elem? (set vs id both) other ≡ some u → ¬ (other ≡ id) → f v + f u ≤ total f vs
  total_has_two f [] id v both other u e h n = absurd (some-ne-none v (sym e))
  total_has_two f (x ∷ xs) zero v both zero u e h n = absurd (n refl)
  total_has_two f (x ∷ xs) zero v both (suc j) u e h n = let p : f x ≡ f v = ap f (some-injective x v e) in let q = total_has f xs j u h in omega arith
  total_has_two f (x ∷ xs) (suc i) v both zero u e h n = let p : f x ≡ f u = ap f (some-injective x u h) in let q = total_has f xs i v e in omega arith
  total_has_two f (x ∷ xs) (suc i) v both (suc j) u e h n = let q = total_has_two f xs i v both j u e h (λ k. n (ap suc k)) in omega arith

  pub total_le : (f g : A → ℕ) (vs : List A) → ((v : A) → f v ≤ g v) → total f vs ≤ total g vs
  total_le f g [] h = omega arith
  total_le f g (x ∷ xs) h = let a = h x in let b = total_le f g xs h in omega arith

  pub total_zero : (g f : A → ℕ) (vs : List A) → ((j : ℕ) (u : A) → get_elem? vs j ≡ some u → g u ≡ 0 → f u ≡ 0) → total g vs ≡ 0 → total f vs ≡ 0
  total_zero g f [] h z = refl
  total_zero g f (x ∷ xs) h z =
      let a : f x ≡ 0 = h 0 x refl (omega arith) in
      let b : total f xs ≡ 0 = total_zero g f xs (λ j u at. h (suc j) u at) (omega arith) in
      omega arith

  -- one view has all of g, so it has all of f
  pub total_alone : (g f : A → ℕ) (vs : List A) (id : ℕ) (v : A) → get_elem? vs id ≡ some v → ((j : ℕ) (u : A) → get_elem? vs j ≡ some u → g u ≡ 0 → f u ≡ 0) → total g vs ≤ g v → total f vs ≡ f v
  total_alone g f [] id v e h l = absurd (some-ne-none v (sym e))
  total_alone g f (x ∷ xs) zero v e h l =
      let p : g x ≡ g v = ap g (some-injective x v e) in
      let q : f x ≡ f v = ap f (some-injective x v e) in
      let b : total f xs ≡ 0 = total_zero g f xs (λ j u at. h (suc j) u at) (omega arith) in
      omega arith
  total_alone g f (x ∷ xs) (suc i) v e h l =
      let r = total_has g xs i v e in
      let a : f x ≡ 0 = h 0 x refl (omega arith) in
      let b = total_alone g f xs i v e (λ j u at. h (suc j) u at) (omega arith) in
      omega arith

pub times_append : (x : ℕ) (ys zs : List ℕ) → times x (ys ++ zs) ≡ times x ys + times x zs
times_append x [] zs = omega arith
times_append x (y ∷ ys) zs = let p = times_append x ys zs in omega arith

pub once_past : (x n : ℕ) → n ≤ x → once_below x n ≡ 0
once_past x zero h = refl
once_past x (suc n) h =
    let a = once_past x n (omega arith) in
    let b : one_if (eqb x n) ≡ 0 = ap one_if (ne_eqb x n (λ e. omega arith)) in
    omega arith

pub times_last : (n : ℕ) (ds : List ℕ) → 1 ≤ times (n + 1 - 1) (ds ++ n ∷ [])
times_last n ds =
    let m : n ≡ n + 1 - 1 = omega arith in
    let a = times_append n ds (n ∷ []) in
    let b : one_if (eqb n n) ≡ 1 = ap one_if (eq-eqb n n refl) in
    subst (λ (k : ℕ). 1 ≤ times k (ds ++ n ∷ [])) m (omega arith)

-- Where the numbers of several add up to each number below n once, they are shared out.
use Rattle.std.proofs.Common.{◌≡◌, ◌≢◌, ℕ, zero, suc, ◌+◌, ◌<◌, ◌≤◌, List, [], ◌∷◌, map, get_or, eqb, sym, refl, ap, ◌∙◌, arith, ⊎_elim}
use Rattle.std.proofs.lemmas.Bool.{cases_eq, cases_lt, ne_eqb, eq-eqb}
use Rattle.crew.specs.Counts.{Has, one_if, total, times, once_below}
use Rattle.crew.specs.Laws.{AreSharedOut}
use Rattle.crew.proofs.CountLemmas.{once_past}

once_inside : (x n : ℕ) → x < n → once_below x n ≡ 1
once_inside x zero h = absurd (omega arith)
once_inside x (suc n) h = ⊎_elim
    (λ e. let a : one_if (eqb x n) ≡ 1 = ap one_if (eq-eqb x n e) in let z = once_past x n (omega arith) in omega arith)
    (λ ne. let a : one_if (eqb x n) ≡ 0 = ap one_if (ne_eqb x n ne) in let r = once_inside x n (omega arith) in omega arith)
    (cases_eq x n)

module _ {A : Type 0} (f : A → ℕ) where
  pub total_map : {B : Type 0} (g : B → A) (xs : List B) → total (λ x. f (g x)) xs ≡ total f (map g xs)
  total_map g [] = refl
  total_map g (x ∷ xs) = ap (λ k. f (g x) + k) (total_map g xs)

  one_le : (d : A) → f d ≡ 0 → (xs : List A) (i : ℕ) → f (get_or xs i d) ≤ total f xs
  one_le d z [] i = omega arith
  one_le d z (x ∷ xs) zero = omega arith
  one_le d z (x ∷ xs) (suc i) = let r = one_le d z xs i in omega arith

  two_le : (d : A) → f d ≡ 0 → (xs : List A) (i j : ℕ) → i ≢ j → f (get_or xs i d) + f (get_or xs j d) ≤ total f xs
  two_le d z [] i j ne = omega arith
  two_le d z (x ∷ xs) zero zero ne = absurd (ne refl)
  two_le d z (x ∷ xs) zero (suc j) ne = let r = one_le d z xs j in omega arith
  two_le d z (x ∷ xs) (suc i) zero ne = let r = one_le d z xs i in omega arith
  two_le d z (x ∷ xs) (suc i) (suc j) ne = let r = two_le d z xs i j (λ e. ne (ap suc e)) in omega arith

  some_one : (d : A) (xs : List A) → 1 ≤ total f xs → (i : ℕ) × (1 ≤ f (get_or xs i d))
  some_one d [] h = absurd (omega arith)
  some_one d (x ∷ xs) h = ⊎_elim
      (λ (none : f x < 1). let r = some_one d xs (omega arith) in (suc r.0, r.1))
      (λ (some : 1 ≤ f x). (0, some))
      (cases_lt (f x) 1)

pub shared_out : (n : ℕ) (drawn : List (List ℕ)) → ((x : ℕ) → total (times x) drawn ≡ once_below x n) → AreSharedOut n drawn
shared_out n drawn all = record {
  below = λ i x has. ⊎_elim (λ low. low) (λ (past : n ≤ x). let a = one_le (times x) [] refl drawn i in let b = all x in let z = once_past x n past in absurd (omega arith)) (cases_lt x n);
  all = λ x low. some_one (times x) [] drawn (let b = all x in let c = once_inside x n low in omega arith);
  once = λ i x. let a = one_le (times x) [] refl drawn i in let b = all x in let c = at_most x in omega arith;
  by_one = λ i j x has_i has_j. ⊎_elim (λ e. e) (λ ne. let a = two_le (times x) [] refl drawn i j ne in let b = all x in let c = at_most x in absurd (omega arith)) (cases_eq i j);
}
  where
    at_most : (x : ℕ) → once_below x n ≤ 1
    at_most x = ⊎_elim (λ low. let c = once_inside x n low in omega arith) (λ past. let z = once_past x n past in omega arith) (cases_lt x n)

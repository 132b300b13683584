-- Ranks, number by number, and the table of them that one pass makes.
use Rattle.std.proofs.Common.{◌≡◌, ℕ, zero, suc, ◌<◌, ◌≤◌, List, length, get_or, Bool, true, false, inl, inr, refl, sym, ap, ◌∙◌, arith}
use Rattle.std.proofs.lemmas.Bool.{cases_lt}
use Rattle.std.proofs.lemmas.List.{get_or_past, get_or_default}
use Rattle.bit_rows.specs.Sets.{has}
use Rattle.kept_numbers.specs.Ranks.{rank}
use Rattle.std.proofs.lemmas.Bool.Decides.{nat_tests}
use Rattle.std.specs.Prelude.{◌==◌, ◌||◌}
use Rattle.c_language.proofs.Tests.{by_answer, or_none}

module _ (keeps : ℕ → Bool) where
  pub rank_at_most : (n : ℕ) → rank keeps n ≤ n
  rank_at_most zero = omega arith
  rank_at_most (suc n) =
      let h = rank_at_most n in
      by_answer (keeps n) (λ k. rw k (omega (arith, h))) (λ k. rw k (omega (arith, h)))

  -- no rank grows past the last number that passes
  pub rank_past : (n m : ℕ) → ((x : ℕ) → n ≤ x → keeps x ≡ false) → n ≤ m → rank keeps m ≡ rank keeps n
  rank_past n zero none le = let e : 0 ≡ n = omega arith in ap (rank keeps) e
  rank_past n (suc m) none le = elim (cases_lt m n) [
    | inl lt ↦ let e : suc m ≡ n = omega arith in ap (rank keeps) e
    | inr ge ↦ rw (none m ge) (rank_past n m none ge)
  ]

-- where all are kept, each number is its rank
pub rank_of_each : (n : ℕ) → rank (λ m. true) n ≡ n
rank_of_each zero = refl
rank_of_each (suc n) = ap suc (rank_of_each n)

-- the ranks of the first numbers, in order
abbrev pub AreRanks : List Bool → ℕ → List ℕ → Type 0
AreRanks kept i ranks = (x : ℕ) → x < i → get_or ranks x 0 ≡ rank (has kept) x

-- a table of all ranks, with the last for each number past the end
pub ranks_all : (kept : List Bool) (n total : ℕ) (ranks : List ℕ) → length kept ≤ n → length ranks ≡ n → total ≡ rank (has kept) n → AreRanks kept n ranks → (x : ℕ) → get_or ranks x total ≡ rank (has kept) x
ranks_all kept n total ranks le len is inv x = elim (cases_lt x n) [
  | inl lt ↦ get_or_default ranks x total 0 (omega (arith, len, lt)) ∙ inv x lt
  | inr ge ↦ get_or_past ranks x total (omega (arith, len, ge)) ∙ is ∙ sym (rank_past (has kept) n x (λ y past. get_or_past kept y false (omega (arith, le, past))) ge)
]

-- the same numbers pass
pub rank_same : (t u : ℕ → Bool) (n : ℕ) → ((i : ℕ) → u i ≡ t i) → rank u n ≡ rank t n
rank_same t u zero same = refl
rank_same t u (suc n) same = rw (same n, rank_same t u n same) refl

-- one more number passes, which didn't
module _ (t u : ℕ → Bool) (own : ℕ) (adds : (i : ℕ) → u i ≡ (t i || (own == i))) (new : t own ≡ false) where
  other_same : (i : ℕ) → (own == i) ≡ false → u i ≡ t i
  other_same i e = adds i ∙ ap (λ b. t i || b) e ∙ or_none (t i)

  pub rank_above : (n : ℕ) → n ≤ own → rank u n ≡ rank t n
  rank_above zero le = refl
  rank_above (suc n) le =
      let e : (own == n) ≡ false = grind (arith, nat_tests, le) in
      rw (other_same n e, rank_above n (omega (arith, le))) refl

  at_own : (n : ℕ) → own ≡ n → rank u (suc n) ≡ suc (rank t (suc n))
  at_own n is =
      let e : (own == n) ≡ true = grind (arith, nat_tests, is) in
      let gone : t n ≡ false = ap t (sym is) ∙ new in
      let here : u n ≡ true = adds n ∙ ap (λ b. b || (own == n)) gone ∙ e in
      let le : n ≤ own = omega (arith, is) in
      rw (here, gone, rank_above n le) refl

  pub rank_below : (n : ℕ) → own < n → rank u n ≡ suc (rank t n)
  rank_below zero lt = absurd (omega (arith, lt))
  rank_below (suc n) lt = elim (cases_lt own n) [
    | inl less ↦
        let e : (own == n) ≡ false = grind (arith, nat_tests, less) in
        by_answer (t n) (λ k. rw (other_same n e, rank_below n less, k) refl) (λ k. rw (other_same n e, rank_below n less, k) refl)
    | inr ge ↦ at_own n (omega (arith, lt, ge))
  ]

-- Tests by rank: each kept number has its test at its rank.
use Rattle.std.proofs.Common.{◌≡◌, ℕ, zero, suc, ◌+◌, ◌<◌, ◌≤◌, List, [], ◌∷◌, ◌++◌, length, get_or, Bool, true, false, inl, inr, length-append, append-nil, refl, sym, ap, ◌∙◌, subst, arith, add-one}
use Rattle.std.proofs.lemmas.Bool.{cases_lt, false≢true}
use Rattle.std.proofs.lemmas.List.{get_or_past}
use Rattle.bit_rows.specs.Sets.{has}
use Rattle.c_language.proofs.Tests.{by_answer}
use Rattle.kept_numbers.specs.Ranks.{rank}
use Rattle.slice_engine.specs.Criterion.{put_if, by_rank}

-- a list with one more at its end
in_front : (xs ys : List Bool) (i : ℕ) → i < length xs → get_or (xs ++ ys) i false ≡ get_or xs i false
in_front [] ys i lt = absurd (omega (arith, lt))
in_front (x ∷ xs) ys zero lt = refl
in_front (x ∷ xs) ys (suc i) lt = in_front xs ys i (omega (arith, lt))

behind : (xs ys : List Bool) (i : ℕ) → get_or (xs ++ ys) (length xs + i) false ≡ get_or ys i false
behind [] ys i = let e : 0 + i ≡ i = omega arith in ap (λ k. get_or ys k false) e
behind (x ∷ xs) ys i = let e : length (x ∷ xs) + i ≡ suc (length xs + i) = omega arith in ap (λ k. get_or (x ∷ (xs ++ ys)) k false) e ∙ behind xs ys i

module _ (keeps test : ℕ → Bool) where
  pub by_rank-more : (n : ℕ) → by_rank keeps test (n + 1) ≡ by_rank keeps test n ++ put_if (keeps n) (test n) []
  by_rank-more n = ap (by_rank keeps test) (add-one n)

  kept_more : (n : ℕ) → keeps n ≡ true → by_rank keeps test (suc n) ≡ by_rank keeps test n ++ test n ∷ []
  kept_more n k = ap (λ b. by_rank keeps test n ++ put_if b (test n) []) k

  other_more : (n : ℕ) → keeps n ≡ false → by_rank keeps test (suc n) ≡ by_rank keeps test n
  other_more n k = ap (λ b. by_rank keeps test n ++ put_if b (test n) []) k ∙ append-nil (by_rank keeps test n)

  -- there are as many as kept numbers
  pub length-by_rank : (n : ℕ) → length (by_rank keeps test n) ≡ rank keeps n
  length-by_rank zero = refl
  length-by_rank (suc n) =
      by_answer (keeps n)
      (λ k. let one = length-append (by_rank keeps test n) (test n ∷ []) in let h = length-by_rank n in rw k (omega (arith, one, h)))
      (λ k. rw k (ap length (append-nil (by_rank keeps test n)) ∙ length-by_rank n))

  -- the ranks of kept numbers below n are below its rank
  rank_low : (i n : ℕ) → i < n → keeps i ≡ true → rank keeps i < rank keeps n
  rank_low i zero lt k = absurd (omega (arith, lt))
  rank_low i (suc n) lt k = elim (cases_lt i n) [
    | inl less ↦ let h = rank_low i n less k in by_answer (keeps n) (λ e. rw e (omega (arith, h))) (λ e. rw e h)
    | inr ge ↦ let same : n ≡ i = omega (arith, lt, ge) in subst (λ m. rank keeps i < rank keeps (suc m)) (sym same) (rw k (omega arith))
  ]

  test_at : (n r : ℕ) (b : Bool) → r < length (by_rank keeps test n) → has (by_rank keeps test n) r ≡ b → has (by_rank keeps test (suc n)) r ≡ b
  test_at n r b lt h = in_front (by_rank keeps test n) (put_if (keeps n) (test n) []) r lt ∙ h

  -- the test of a kept number stands at its rank
  pub at_rank : (i n : ℕ) → i < n → keeps i ≡ true → has (by_rank keeps test n) (rank keeps i) ≡ test i
  at_rank i zero lt k = absurd (omega (arith, lt))
  at_rank i (suc n) lt k = elim (cases_lt i n) [
    | inl less ↦
        let long = length-by_rank n in
        let low = rank_low i n less k in
        test_at n (rank keeps i) (test i) (omega (arith, long, low)) (at_rank i n less k)
    | inr ge ↦
        let same : i ≡ n = omega (arith, lt, ge) in
        subst (λ m. has (by_rank keeps test (suc n)) (rank keeps m) ≡ test m) (sym same) (last_rank n (subst (λ m. keeps m ≡ true) same k))
  ]
    where
      last_rank : (n : ℕ) → keeps n ≡ true → has (by_rank keeps test (suc n)) (rank keeps n) ≡ test n
      last_rank n k =
          let e : rank keeps n ≡ length (by_rank keeps test n) + 0 = (let long = length-by_rank n in omega (arith, long)) in
          ap (λ xs. has xs (rank keeps n)) (kept_more n k) ∙ ap (has (by_rank keeps test n ++ test n ∷ [])) e ∙ behind (by_rank keeps test n) (test n ∷ []) 0

  -- and each test that passes is that of a kept number
  pub record OfRank (n r : ℕ) : Type 0 where
    pub number : ℕ
    pub below : number < n
    pub kept : keeps number ≡ true
    pub at : rank keeps number ≡ r

  later : (n r : ℕ) → OfRank n r → OfRank (suc n) r
  later n r w = record { number = w.number; below = (let lt = w.below in omega (arith, lt)); kept = w.kept; at = w.at }

  in_range : (xs : List Bool) (r : ℕ) → has xs r ≡ true → r < length xs
  in_range xs r h = elim (cases_lt r (length xs)) [
    | inl low ↦ low
    | inr high ↦ absurd (false≢true (sym (get_or_past xs r false high) ∙ h))
  ]

  pub of_rank : (n r : ℕ) → has (by_rank keeps test n) r ≡ true → OfRank n r
  of_rank zero r h = cc
  of_rank (suc n) r h = by_answer (keeps n) (λ k. kept_last (λ g. of_rank n r g) k) (λ k. later n r (of_rank n r (sym (ap (λ xs. has xs r) (other_more n k)) ∙ h)))
    where
      kept_last : (has (by_rank keeps test n) r ≡ true → OfRank n r) → keeps n ≡ true → OfRank (suc n) r
      kept_last before k =
          let long = length-by_rank n in
          let all = length-append (by_rank keeps test n) (test n ∷ []) in
          let low = in_range (by_rank keeps test n ++ test n ∷ []) r (sym (ap (λ xs. has xs r) (kept_more n k)) ∙ h) in
          elim (cases_lt r (length (by_rank keeps test n))) [
            | inl less ↦ later n r (before (sym (in_front (by_rank keeps test n) (put_if (keeps n) (test n) []) r less) ∙ h))
            | inr ge ↦ record { number = n; below = omega arith; kept = k; at = omega (arith, long, all, low, ge) }
          ]

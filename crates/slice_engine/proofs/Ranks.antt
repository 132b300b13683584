-- Ranks: below each number, how many pass a test. Numbers that pass have ranks of their own.
use Rattle.std.proofs.Common.{◌≡◌, ℕ, suc, ◌<◌, Bool, true, inl, inr, refl, arith}
use Rattle.std.proofs.lemmas.Bool.{cases_lt}
use Rattle.kept_numbers.specs.Ranks.{rank}
use Rattle.own_words.proofs.Names.{rank_grows}

module _ (keeps : ℕ → Bool) where
  -- one more above a number that passes
  pub rank_below : (m n : ℕ) → m < n → keeps m ≡ true → rank keeps m < rank keeps n
  rank_below m n lt k =
      let next : rank keeps (suc m) ≡ suc (rank keeps m) = rw k refl in
      let h = rank_grows keeps (suc m) n lt in
      omega arith

  pub rank_injective : (m n : ℕ) → keeps m ≡ true → keeps n ≡ true → rank keeps m ≡ rank keeps n → m ≡ n
  rank_injective m n j k e =
      elim (cases_lt m n) [
        | inl lt ↦ let h = rank_below m n lt j in absurd (omega arith)
        | inr ge ↦ elim (cases_lt n m) [ inl lt ↦ let h = rank_below n m lt k in absurd (omega arith) | inr le ↦ omega arith ]
      ]

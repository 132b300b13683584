-- The lines in a header: each is that of a rank of the criterion.
use Rattle.std.proofs.Common.{◌≡◌, ◌↔◌, ℕ, zero, suc, ◌<◌, List, [], ◌∷◌, get_or, slice_get, Bool, true, false, Some, inl, inr, refl, sym, subst}
use Rattle.std.specs.Prelude.{Contains, AllPairs, nat_eq}
use Rattle.std.specs.List.{dedup}
use Rattle.std.specs.List.Sorted.{IsSorted, IsPermutation}
use Rattle.std.specs.Ordering.{nat_cmp}
use Rattle.std.proofs.lemmas.List.Kept.{AllPairs-from_increasing, Contains-dedup_nat, Contains-from_dedup}
use Rattle.std.proofs.lemmas.List.Sorted.{Contains-permutation, IsPermutation-sym}
use Rattle.std.proofs.lemmas.Map.Keys.{IsStrictlyIncreasing-dedup}
use Rattle.rule_closure.proofs.ListLemmas.{contains_none, contains_head, contains_cons, contains_cases}
use Rattle.slice_engine.specs.Criterion.{put_if}
use Rattle.slice_engine.specs.Header.{shown_lines}

-- a rank of the criterion and its line
pub record IsShown (in_criterion : List Bool) (lines : List ℕ) (k : ℕ) : Type 0 where
  pub rank : ℕ
  pub is_shown : get_or in_criterion rank false ≡ true
  pub line : ℕ
  pub line_is : slice_get lines rank ≡ Some line
  pub behind : k ≡ suc line

shown_later : (b : Bool) (bs : List Bool) (l : ℕ) (ls : List ℕ) (k : ℕ) → IsShown bs ls k → IsShown (b ∷ bs) (l ∷ ls) k
shown_later b bs l ls k s = record { rank = suc s.rank; is_shown = s.is_shown; line = s.line; line_is = s.line_is; behind = s.behind }

pub shown_at : (in_criterion : List Bool) (lines : List ℕ) (k : ℕ) → Contains (shown_lines in_criterion lines) k → IsShown in_criterion lines k
shown_at [] lines k h = absurd (contains_none k h)
shown_at (b ∷ bs) [] k h = absurd (contains_none k h)
shown_at (true ∷ bs) (l ∷ ls) k h = elim (contains_cases (suc l) (shown_lines bs ls) k h) [
  | inl e ↦ record { rank = 0; is_shown = refl; line = l; line_is = refl; behind = sym e }
  | inr later ↦ shown_later true bs l ls k (shown_at bs ls k later)
]
shown_at (false ∷ bs) (l ∷ ls) k h = shown_later false bs l ls k (shown_at bs ls k h)

contains_line : (b : Bool) (n : ℕ) (ls : List ℕ) (k : ℕ) → Contains ls k → Contains (put_if b n ls) k
contains_line true n ls k h = contains_cons n ls k h
contains_line false n ls k h = h

pub at_shown : (in_criterion : List Bool) (lines : List ℕ) (r n : ℕ) → get_or in_criterion r false ≡ true → slice_get lines r ≡ Some n → Contains (shown_lines in_criterion lines) (suc n)
at_shown [] lines r n w e = cc
at_shown (b ∷ bs) [] r n w e = cc
at_shown (true ∷ bs) (l ∷ ls) zero n w e = let same : l ≡ n = some_same e in subst (λ m. Contains (suc l ∷ shown_lines bs ls) (suc m)) same (contains_head (suc l) (shown_lines bs ls))
  where
    some_same : {a b : ℕ} → Some a ≡ Some b → a ≡ b
    some_same h = cc
at_shown (false ∷ bs) (l ∷ ls) zero n w e = cc
at_shown (b ∷ bs) (l ∷ ls) (suc r) n w e = contains_line b (suc l) (shown_lines bs ls) (suc n) (at_shown bs ls r n w e)

-- ---- sorted, each once

pub sorted_ascend : (xs ys : List ℕ) → IsSorted nat_cmp xs → ys ≡ dedup nat_eq xs → AllPairs (λ a b. a < b) ys
sorted_ascend xs ys sorted is = subst (AllPairs (λ a b. a < b)) (sym is) (AllPairs-from_increasing (dedup nat_eq xs) (IsStrictlyIncreasing-dedup xs sorted))

pub sorted_same : (whole found xs ys : List ℕ) → found ≡ whole → IsPermutation found xs → ys ≡ dedup nat_eq xs → (k : ℕ) → Contains ys k ↔ Contains whole k
sorted_same whole found xs ys same moved is k = (
  (λ h. subst (λ zs. Contains zs k) same (Contains-permutation _ _ k (IsPermutation-sym _ _ moved) (Contains-from_dedup nat_eq xs k (subst (λ zs. Contains zs k) is h)))),
  (λ h. subst (λ zs. Contains zs k) (sym is) (Contains-dedup_nat xs k (Contains-permutation _ _ k moved (subst (λ zs. Contains zs k) (sym same) h)))),
)

-- Ranks are numbers of their own.
use Rattle.std.proofs.Common.{◌≡◌, ℕ, zero, suc, ◌+◌, ◌<◌, ◌≤◌, Bool, true, false, if◌then◌else◌, refl, sym, ap, subst, arith}
use Rattle.kept_numbers.specs.Ranks.{rank}
use Rattle.projection.specs.Kept.{Kept}
use Rattle.simulation_places.specs.Counterparts.{ranks_of, names_of, AreApart}

rank_step : (t : ℕ → Bool) (x y : ℕ) → rank t x ≤ rank t y → rank t x ≤ rank t (suc y)
rank_step t x y h = by_test (t y)
  where
    by_test : (b : Bool) → rank t x ≤ (if b then suc (rank t y) else rank t y)
    by_test true = omega (arith, h)
    by_test false = h

rank_more : (t : ℕ → Bool) (x : ℕ) → t x ≡ true → rank t x < rank t (suc x)
rank_more t x h = rw h (omega arith)

rank_after : (t : ℕ → Bool) (x d : ℕ) → t x ≡ true → rank t x < rank t (suc x + d)
rank_after t x zero h = let same : suc x + 0 ≡ suc x = omega arith in subst (λ y. rank t x < rank t y) (sym same) (rank_more t x h)
rank_after t x (suc d) h =
    let same : suc x + suc d ≡ suc (suc x + d) = omega arith in
    let less = rank_after t x d h in
    let more = rank_step t (suc x + d) (suc x + d) (omega arith) in
    subst (λ y. rank t x < rank t y) (sym same) (omega (arith, less, more))

behind : (x y : ℕ) → x < y → (d : ℕ) × (suc x + d ≡ y)
behind x zero lt = absurd (omega (arith, lt))
behind zero (suc y) lt = (y, omega arith)
behind (suc x) (suc y) lt = let r = behind x y (omega (arith, lt)) in let e = r.1 in (r.0, omega (arith, e))

rank_less : (t : ℕ → Bool) (x y : ℕ) → t x ≡ true → x < y → rank t x < rank t y
rank_less t x y h lt = let r = behind x y lt in subst (λ z. rank t x < rank t z) r.1 (rank_after t x r.0 h)

data Order (x y : ℕ) : Type 0 where
  less : x < y → Order x y
  equal : x ≡ y → Order x y
  more : y < x → Order x y

order : (x y : ℕ) → Order x y
order zero zero = equal refl
order zero (suc y) = less (omega arith)
order (suc x) zero = more (omega arith)
order (suc x) (suc y) = elim (order x y) [ less h ↦ less (omega (arith, h)) | equal h ↦ equal (ap suc h) | more h ↦ more (omega (arith, h)) ]

-- variables that stay have names of their own in the slice
pub ranks_apart : (k : Kept ℕ) → AreApart (names_of k (ranks_of k))
ranks_apart k x y h j e = elim (order x y) [
  | less lt ↦ let r = rank_less k.variable x y h lt in absurd (omega (arith, r, e))
  | equal is ↦ is
  | more lt ↦ let r = rank_less k.variable y x j lt in absurd (omega (arith, r, e))
]

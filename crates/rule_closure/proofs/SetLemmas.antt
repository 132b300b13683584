-- Sets of numbers below a bound, as lists of tests: what they have after an addition, and how many.
use Rattle.std.proofs.Common.{◌≡◌, ℕ, ◌+◌, ◌<◌, ◌⊎◌, inl, inr, Bool, true, false, cond, List, length, get_or, set, ◌↔◌, refl, sym, ap, ◌∙◌, arith}
use Rattle.std.proofs.lemmas.List.{get_or-set_same, get_or-set_other, length-set, get_or_past, ext_get_or}
use Rattle.std.proofs.lemmas.List.Sums.{sum_by-set, count_by-le-length}
use Rattle.std.proofs.lemmas.Bool.{cases_eq, cases_lt, false≢true}
use Rattle.std.specs.Prelude.{IsTrue}
use Rattle.bit_rows.specs.Sets.{has, count_of}

-- a member is below the length
pub has_in_range : (s : List Bool) (v : ℕ) → IsTrue (has s v) → v < length s
has_in_range s v h = elim (cases_lt v (length s)) [
  | inl low ↦ low
  | inr high ↦ absurd (false≢true (sym (get_or_past s v false high) ∙ h))
]

-- members stay when a number is added
pub has_set : (s : List Bool) (u v : ℕ) → IsTrue (has s v) → IsTrue (has (set s u true) v)
has_set s u v h = elim (cases_eq v u) [
  | inl q ↦ ap (λ k. has (set s u true) k) q ∙ get_or-set_same s u true false (let low : v < length s = has_in_range s v h in omega arith)
  | inr q ↦ get_or-set_other s u v true false q ∙ h
]

-- the number that is added is a member
pub has_set_same : (s : List Bool) (u : ℕ) → u < length s → IsTrue (has (set s u true) u)
has_set_same s u low = get_or-set_same s u true false low

-- a member after an addition was one before, or is what was added
pub has_set_cases : (s : List Bool) (u v : ℕ) → IsTrue (has (set s u true) v) → IsTrue (has s v) ⊎ (v ≡ u)
has_set_cases s u v h = elim (cases_eq v u) [
  | inl q ↦ inr q
  | inr q ↦ inl (sym (get_or-set_other s u v true false q) ∙ h)
]

-- an addition makes one more
pub count-set : (s : List Bool) (u : ℕ) → u < length s → has s u ≡ false → ◌≡◌ {A = ℕ} (count_of (set s u true)) (count_of s + 1)
count-set s u h none =
    let e = sum_by-set (λ (b : Bool). cond b 1 0) s u true false h in
    let z : ◌≡◌ {A = ℕ} (cond (get_or s u false) 1 0) 0 = ap (λ b. cond b 1 0) none in
    omega (arith, e, z)

-- a set that lacks a number has fewer members than its length
pub count_room : (s : List Bool) (u : ℕ) → u < length s → has s u ≡ false → count_of s < length s
count_room s u h none = omega (arith, count-set s u h none, count_by-le-length (λ (b : Bool). b) (set s u true), length-set s u true)

-- tests that imply each other are the same
pub same_test : (a b : Bool) → (IsTrue a ↔ IsTrue b) → a ≡ b
same_test true true e = refl
same_test true false e = sym (e.0 refl)
same_test false true e = e.1 refl
same_test false false e = refl

-- sets of one length with the same members are equal
pub same_members : (s t : List Bool) → length s ≡ length t → ((v : ℕ) → IsTrue (has s v) ↔ IsTrue (has t v)) → s ≡ t
same_members s t size same = ext_get_or false s t size (λ i h. same_test (has s i) (has t i) (same i))

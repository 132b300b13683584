-- Bits of statements that are set and taken away, and rows that are read.
use Rattle.std.proofs.Common.{◌≡◌, ◌≢◌, ℕ, zero, suc, ◌+◌, ◌*◌, ◌/◌, ◌%◌, ◌^◌, ◌<◌, ◌≤◌, ◌⊎◌, inl, inr, Bool, true, false, ◌&&◌, not, eqb, List, length, get_or, set, refl, sym, ap, ◌∙◌, arith, min}
use mir.Syntax.{w64}
use Rattle.std.specs.Int.{bit_at}
use Rattle.std.specs.Int.Bits.{bit_and, bit_or, bit_xor}
use Rattle.std.proofs.lemmas.Bool.{cases_eq, cases_lt, false≢true}
use Rattle.std.proofs.lemmas.List.{get_or-set_same, get_or-set_other, length-set}
use Rattle.std.proofs.lemmas.Nat.Bits.{bit_at_and, bit_at_xor, bit_at-lt, bit_at_set_other}
use Rattle.bit_rows.specs.Sets.{has}
use Rattle.bit_rows.specs.Words.{word_bit, set_of}
use Rattle.bit_rows.proofs.SetLemmas.{has_past}
use Rattle.bit_rows.proofs.WordLemmas.{word_bit_past, no_bit, length-set_of, has-set_of}

-- ---- the bits of a word that another one hasn't
without_small : (x y : ℕ) → x < 2 → y < 2 → eqb ((x + min x y) % 2) 1 ≡ (eqb x 1 && not (eqb y 1))
without_small zero zero h k = refl
without_small zero (suc zero) h k = refl
without_small zero (suc (suc y)) h k = absurd (omega (arith, k))
without_small (suc zero) zero h k = refl
without_small (suc zero) (suc zero) h k = refl
without_small (suc zero) (suc (suc y)) h k = absurd (omega (arith, k))
without_small (suc (suc x)) y h k = absurd (omega (arith, h))

pub bit_without : (a b i : ℕ) → eqb (bit_at (bit_xor a (bit_and a b)) i) 1 ≡ (eqb (bit_at a i) 1 && not (eqb (bit_at b i) 1))
bit_without a b i =
    ap (λ x. eqb x 1) (bit_at_xor a (bit_and a b) i ∙ ap (λ y. (bit_at a i + y) % 2) (bit_at_and a b i)) ∙ without_small (bit_at a i) (bit_at b i) (bit_at-lt a i) (bit_at-lt b i)

-- ---- words from which the first of others have been taken

pub record IsRemoved (words old : List ℕ) (at : ℕ) (new : List ℕ) : Type 0 where
  pub long : length new ≡ length old
  pub done : (k : ℕ) → k / 64 < at → word_bit new k ≡ (word_bit old k && not (word_bit words k))
  pub to_come : (j : ℕ) → at ≤ j → get_or new j 0 ≡ get_or old j 0

pub removed_none : (words old : List ℕ) → IsRemoved words old 0 old
removed_none words old = record { long = refl; done = λ k low. absurd (omega (arith, low)); to_come = λ j high. refl }

pub removed_more : (words old : List ℕ) (at x : ℕ) (mid : List ℕ) → at < length mid → ((i : ℕ) → eqb (bit_at x i) 1 ≡ (eqb (bit_at (get_or mid at 0) i) 1 && not (eqb (bit_at (get_or words at 0) i) 1))) → IsRemoved words old at mid → IsRemoved words old (at + 1) (set mid at x)
removed_more words old at x mid low is before = record {
  long = length-set mid at x ∙ before.long;
  done = λ k less. elim (cases_eq (k / 64) at) [
    | inl here ↦
        ap (λ j. eqb (bit_at (get_or (set mid at x) j 0) (k % 64)) 1) here
        ∙ ap (λ y. eqb (bit_at y (k % 64)) 1) (get_or-set_same mid at x 0 low)
        ∙ is (k % 64)
        ∙ ap (λ y. eqb (bit_at y (k % 64)) 1 && not (eqb (bit_at (get_or words at 0) (k % 64)) 1)) (before.to_come at (omega arith))
        ∙ ap (λ j. eqb (bit_at (get_or old j 0) (k % 64)) 1 && not (eqb (bit_at (get_or words j 0) (k % 64)) 1)) (sym here)
    | inr other ↦ ap (λ y. eqb (bit_at y (k % 64)) 1) (get_or-set_other mid at (k / 64) x 0 other) ∙ before.done k (omega (arith, less, other))
  ];
  to_come = λ j high. get_or-set_other mid at j x 0 (λ same. let e : j ≡ at = same in omega (arith, e, high)) ∙ before.to_come j (omega (arith, high));
}

and_none : (b : Bool) → (b && not false) ≡ b
and_none true = refl
and_none false = refl

pub removed_all : (words old : List ℕ) (at : ℕ) (new : List ℕ) → length words ≤ at → IsRemoved words old at new → (k : ℕ) → word_bit new k ≡ (word_bit old k && not (word_bit words k))
removed_all words old at new end is k = elim (cases_lt (k / 64) at) [
  | inl low ↦ is.done k low
  | inr high ↦
      ap (λ x. eqb (bit_at x (k % 64)) 1) (is.to_come (k / 64) high)
      ∙ sym (ap (λ b. word_bit old k && not b) (word_bit_past words k (omega (arith, end, high))) ∙ and_none (word_bit old k))
]

-- what is left was there before, and wasn't taken
pub left_of : (b c d : Bool) → d ≡ (b && not c) → d ≡ true → (b ≡ true) × (c ≡ true → ⊥)
left_of true true d is h = absurd (false≢true (sym is ∙ h))
left_of true false d is h = (refl, λ k. false≢true k)
left_of false c d is h = absurd (false≢true (sym is ∙ h))

-- ---- one bit more
pub put_bit : (words : List ℕ) (k x : ℕ) → k / 64 < length words → x ≡ get_or words (k / 64) 0 → (j : ℕ) → word_bit (set words (k / 64) (bit_or x (1 * 2 ^ (k % 64) % 2 ^ 64))) j ≡ true → (j ≡ k) ⊎ (word_bit words j ≡ true)
put_bit words k x low read j h = elim (cases_eq j k) [
  | inl same ↦ inl same
  | inr other ↦ inr (elim (cases_eq (j / 64) (k / 64)) [
    | inl here ↦
        let apart : j % 64 ≢ k % 64 = λ e. other (let f : j % 64 ≡ k % 64 = e in omega (arith, f, here)) in
        ap (λ y. eqb (bit_at y (j % 64)) 1) (ap (λ i. get_or words i 0) here ∙ sym read)
        ∙ sym (ap (λ i. eqb (bit_at (get_or (set words (k / 64) (bit_or x (1 * 2 ^ (k % 64) % 2 ^ 64))) i 0) (j % 64)) 1) here
        ∙ ap (λ y. eqb (bit_at y (j % 64)) 1) (get_or-set_same words (k / 64) _ 0 low)
        ∙ ap (λ y. eqb y 1) (bit_at_set_other w64 x (k % 64) (omega arith) (j % 64) apart))
        ∙ h
    | inr there ↦ sym (ap (λ y. eqb (bit_at y (j % 64)) 1) (get_or-set_other words (k / 64) (j / 64) _ 0 there)) ∙ h
  ])
]

-- ---- words that are 0
pub blank_block : (n : ℕ) (ws : List ℕ) (s : List Bool) (place : ℕ) → set_of n ws ≡ s → get_or ws (place / 64) 0 ≡ 0 → (k : ℕ) → k / 64 ≡ place / 64 → has s k ≡ false
blank_block n ws s place is zero_ k same = elim (cases_lt k n) [
  | inl low ↦ ap (λ (v : List Bool). has v k) (sym is) ∙ has-set_of n ws k low ∙ no_bit (get_or ws (k / 64) 0) (k % 64) (ap (λ i. get_or ws i 0) same ∙ zero_)
  | inr high ↦ has_past s k (let l : length s ≡ n = ap length (sym is) ∙ length-set_of n ws in omega (arith, l, high))
]

-- a member of the set that words hold is a bit of theirs
pub held_bit : (n : ℕ) (ws : List ℕ) (s : List Bool) (k : ℕ) → set_of n ws ≡ s → has s k ≡ true → word_bit ws k ≡ true
held_bit n ws s k is h = elim (cases_lt k n) [
  | inl low ↦ sym (has-set_of n ws k low) ∙ ap (λ (v : List Bool). has v k) is ∙ h
  | inr high ↦ absurd (false≢true (sym (has_past s k (let l : length s ≡ n = ap length (sym is) ∙ length-set_of n ws in omega (arith, l, high))) ∙ h))
]

-- a bit of no word
pub no_bits : (ws : List ℕ) (k : ℕ) → ((i : ℕ) → get_or ws i 0 ≡ 0) → word_bit ws k ≡ false
no_bits ws k none = no_bit (get_or ws (k / 64) 0) (k % 64) (none (k / 64))

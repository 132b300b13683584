-- Words that differ, where the second hold all that the first hold, hold a bit that the first lack, and more bits.
use Rattle.std.proofs.Common.{◌≡◌, ◌≢◌, ℕ, zero, suc, ◌+◌, ◌*◌, ◌%◌, ◌^◌, ◌<◌, ◌≤◌, ◌⊎◌, inl, inr, Bool, true, false, List, get_or, refl, sym, ap, ◌∙◌, subst, arith}
use Rattle.std.specs.Prelude.{if◌then◌else◌}
use Rattle.std.specs.Int.{bit_at}
use Rattle.std.proofs.lemmas.Bool.{cases_eq, cases_lt, false≢true}
use Rattle.std.proofs.lemmas.Nat.Bits.{bit_at-lt, bit_at_above, same_from_bits}
use Rattle.bit_rows.specs.Words.{word_bit}
use Rattle.crew.specs.SharedWords.{Holds, AreWithin, bit}
use Rattle.crew.proofs.BitLemmas.{bit_is_fact, holds_bit, place_of, word_of}
use Rattle.matched_paths.specs.Places.{bits_below}
use Rattle.summary_edges.specs.Agendas.{HasGainedBit}
use Rattle.summary_edges.proofs.SeriesLaws.{bits_among}

-- ---- one word
-- a bit below k that the first number lacks and the second has, or none
lacking : (x y k : ℕ) → ((i : ℕ) × (i < k) × (bit_at x i ≢ 1) × (bit_at y i ≡ 1)) ⊎ ((i : ℕ) → i < k → bit_at y i ≡ 1 → bit_at x i ≡ 1)
lacking x y zero = inr (λ i low b. absurd (omega (arith, low)))
lacking x y (suc k) = elim (lacking x y k) [
  | inl found ↦ inl (found.0, (let low = found.1 in omega (arith, low)), found.2, found.3)
  | inr none ↦ elim (cases_eq (bit_at y k) 1) [
    | inr off ↦ inr (at_last none (λ b. absurd (off b)))
    | inl on ↦ elim (cases_eq (bit_at x k) 1) [
      | inl there ↦ inr (at_last none (λ b. there))
      | inr new ↦ inl (k, omega arith, new, on)
    ]
  ]
]
  where
    at_last : ((i : ℕ) → i < k → bit_at y i ≡ 1 → bit_at x i ≡ 1) → (bit_at y k ≡ 1 → bit_at x k ≡ 1) → (i : ℕ) → i < suc k → bit_at y i ≡ 1 → bit_at x i ≡ 1
    at_last below here i low b = elim (cases_eq i k) [
      | inl same ↦ subst (λ j. bit_at x j ≡ 1) (sym same) (here (subst (λ j. bit_at y j ≡ 1) same b))
      | inr other ↦ below i (omega (arith, low, other)) b
    ]

-- numbers of 64 bits with the same bits are the same
same_word : (x y : ℕ) → x < 2 ^ 64 → y < 2 ^ 64 → ((i : ℕ) → i < 64 → bit_at x i ≡ 1 → bit_at y i ≡ 1) → ((i : ℕ) → i < 64 → bit_at y i ≡ 1 → bit_at x i ≡ 1) → x ≡ y
same_word x y x_small y_small to from = same_from_bits x y (λ i. elim (cases_lt i 64) [
  | inl low ↦ both i low
  | inr high ↦ bit_at_above x 64 i x_small high ∙ sym (bit_at_above y 64 i y_small high)
])
  where
    both : (i : ℕ) → i < 64 → bit_at x i ≡ bit_at y i
    both i low =
        let a = bit_at-lt x i in
        let b = bit_at-lt y i in
        elim (cases_eq (bit_at x i) 1) [
          | inl on ↦ (let there = to i low on in omega (arith, on, there))
          | inr off ↦ elim (cases_eq (bit_at y i) 1) [
            | inl there ↦ absurd (off (from i low there))
            | inr none ↦ omega (arith, a, b, off, none)
          ]
        ]

-- a fact that is held is a bit of its word
held_at : (ws : List ℕ) (w i : ℕ) → i < 64 → Holds ws (64 * w + i) → bit ws w i ≡ 1
held_at ws w i few h = sym (ap (λ j. bit ws w j) (place_of w i few)) ∙ sym (ap (λ j. bit ws j ((64 * w + i) % 64)) (word_of w i few)) ∙ holds_bit ws (64 * w + i) h

-- a word that differs has gained a bit
pub word_gains : (before after : List ℕ) (w : ℕ) → AreWithin before after → get_or before w 0 < 2 ^ 64 → get_or after w 0 < 2 ^ 64 → get_or before w 0 ≢ get_or after w 0 → HasGainedBit before after
word_gains before after w within small large differs = elim (lacking (get_or before w 0) (get_or after w 0) 64) [
  | inl found ↦ record {
    bit = 64 * w + found.0;
    now = bit_is_fact after w found.0 found.1 found.3;
    not_before = λ h. found.2 (held_at before w found.0 found.1 h);
  }
  | inr none ↦ absurd (differs (same_word (get_or before w 0) (get_or after w 0) small large (λ i few b. held_at after w i few (within (64 * w + i) (bit_is_fact before w i few b))) none))
]

-- ---- how many bits are set
abbrev one_if : Bool → ℕ
one_if b = if b then 1 else 0

pub bits_more : (n : ℕ) (us ws : List ℕ) → AreWithin us ws → (b : ℕ) → b < n → Holds ws b → (Holds us b → ⊥) → bits_below n us < bits_below n ws
bits_more zero us ws within b low now before = absurd (omega (arith, low))
bits_more (suc n) us ws within b low now before = elim (cases_eq b n) [
  | inl same ↦ last (word_bit us n) (word_bit ws n) (λ e. before (ap (word_bit us) same ∙ e)) (ap (word_bit ws) (sym same) ∙ now) (bits_among n us ws within)
  | inr other ↦ earlier (word_bit us n) (word_bit ws n) (within n) (bits_more n us ws within b (omega (arith, low, other)) now before)
]
  where
    last : (x y : Bool) → (x ≡ true → ⊥) → y ≡ true → bits_below n us ≤ bits_below n ws → bits_below n us + one_if x < bits_below n ws + one_if y
    last true y off on le = absurd (off refl)
    last false true off on le = omega (arith, le)
    last false false off on le = absurd (false≢true on)

    earlier : (x y : Bool) → (x ≡ true → y ≡ true) → bits_below n us < bits_below n ws → bits_below n us + one_if x < bits_below n ws + one_if y
    earlier false y also lt = omega (arith, lt)
    earlier true true also lt = omega (arith, lt)
    earlier true false also lt = absurd (false≢true (also refl))

-- The words of a row that aren't 0 as they are taken, and what of them a vertex lets pass or uses.
use Rattle.std.proofs.Common.{◌≡◌, ℕ, zero, suc, ◌+◌, ◌*◌, ◌/◌, ◌%◌, ◌^◌, ◌<◌, ◌⊎◌, inl, inr, Bool, true, ◌&&◌, not, eqb, List, [], ◌∷◌, ◌++◌, length, get_or, set, Contains, refl, sym, ap, ◌∙◌, subst, arith, min}
use mir.Syntax.{w64}
use Rattle.std.specs.Int.{bit_at, trailing_zeros}
use Rattle.std.specs.Int.Bits.{bit_and, bit_xor}
use Rattle.std.proofs.lemmas.Bool.{cases_eq, cases_lt, false≢true}
use Rattle.std.proofs.Math.Seq.{get_or-append_seam}
use Rattle.std.proofs.lemmas.List.{get_or_append_left, get_or-set_same, get_or-set_other, length-append, length-set}
use Rattle.std.proofs.lemmas.List.Elements.{Contains-push, Contains-append_left}
use Rattle.std.proofs.lemmas.Nat.Bits.{bit_at_and, bit_at_xor, bit_at-lt, bit_at-trailing_zeros}
use Rattle.std.proofs.lemmas.Nat.{and_le_l}
use Rattle.bit_rows.specs.Words.{word_bit}
use Rattle.bit_rows.proofs.WordLemmas.{no_bit, word_bit_past}
use Rattle.reaching_defs.specs.HeldWords.{location_at, AreHeld, Meets}

-- ---- the words of a row that were looked at
pub record IsTaken (row : List ℕ) (at : ℕ) (held words : List ℕ) : Type 0 where
  pub long : length words ≡ length held
  pub inside : (j : ℕ) → j < length held → get_or held j 0 < length row
  pub same : (j : ℕ) → j < length held → get_or words j 0 ≡ get_or row (get_or held j 0) 0
  pub whole : (i : ℕ) → i < at → (get_or row i 0 ≡ 0) ⊎ Contains held i

module _ (row : List ℕ) where
  pub taken_begin : IsTaken row 0 [] []
  taken_begin = record {
    long = refl;
    inside = λ j low. absurd (omega (arith, low));
    same = λ j low. absurd (omega (arith, low));
    whole = λ i low. absurd (omega (arith, low));
  }

  module _ (at : ℕ) (held words : List ℕ) (i : IsTaken row at held words) where
    pub taken_skips : get_or row at 0 ≡ 0 → IsTaken row (at + 1) held words
    taken_skips none = record {
      long = i.long;
      inside = i.inside;
      same = i.same;
      whole = λ k low. elim (cases_eq k at) [
        | inl q ↦ inl (ap (λ x. get_or row x 0) q ∙ none)
        | inr q ↦ i.whole k (omega (arith, low, q))
      ];
    }

    longer : length (held ++ at ∷ []) ≡ length held + 1
    longer = length-append held (at ∷ [])

    last_held : (j : ℕ) → j ≡ length held → get_or (held ++ at ∷ []) j 0 ≡ at
    last_held j q = ap (λ x. get_or (held ++ at ∷ []) x 0) q ∙ get_or-append_seam held at [] 0

    last_word : (j : ℕ) → j ≡ length held → get_or (words ++ get_or row at 0 ∷ []) j 0 ≡ get_or row at 0
    last_word j q = ap (λ x. get_or (words ++ get_or row at 0 ∷ []) x 0) (q ∙ sym i.long) ∙ get_or-append_seam words (get_or row at 0) [] 0

    pub taken_adds : at < length row → IsTaken row (at + 1) (held ++ at ∷ []) (words ++ get_or row at 0 ∷ [])
    taken_adds here = record {
      long = length-append words (get_or row at 0 ∷ []) ∙ ap (λ x. x + 1) i.long ∙ sym longer;
      inside = λ j low. elim (cases_eq j (length held)) [
        | inl q ↦ let e = last_held j q in omega (arith, e, here)
        | inr q ↦
            let old : j < length held = omega (arith, low, q, longer) in
            let e = get_or_append_left held (at ∷ []) 0 j old in
            omega (arith, e, i.inside j old)
      ];
      same = λ j low. elim (cases_eq j (length held)) [
        | inl q ↦ last_word j q ∙ ap (λ x. get_or row x 0) (sym (last_held j q))
        | inr q ↦
            let old : j < length held = omega (arith, low, q, longer) in
            get_or_append_left words (get_or row at 0 ∷ []) 0 j (omega (arith, old, i.long)) ∙ i.same j old ∙ ap (λ x. get_or row x 0) (sym (get_or_append_left held (at ∷ []) 0 j old))
      ];
      whole = λ k low. elim (cases_eq k at) [
        | inl q ↦ inr (subst (Contains (held ++ at ∷ [])) (sym q) (Contains-push held at))
        | inr q ↦ elim (i.whole k (omega (arith, low, q))) [
          | inl z ↦ inl z
          | inr m ↦ inr (Contains-append_left held (at ∷ []) k m)
        ]
      ];
    }

    pub taken_end : at ≡ length row → AreHeld row held words
    taken_end end = record { long = i.long; inside = i.inside; same = i.same; whole = λ k low. i.whole k (omega (arith, low, end)) }

-- ---- the location of a held bit
module _ (held row : List ℕ) (t : ℕ) where
  -- its bit in a whole row
  pub bit_there : word_bit row (location_at held t) ≡ eqb (bit_at (get_or row (get_or held (t / 64) 0) 0) (t % 64)) 1
  bit_there =
      let place : (64 * get_or held (t / 64) 0 + t % 64) / 64 ≡ get_or held (t / 64) 0 = omega arith in
      let part : (64 * get_or held (t / 64) 0 + t % 64) % 64 ≡ t % 64 = omega arith in
      ap (λ i. eqb (bit_at (get_or row i 0) (location_at held t % 64)) 1) place ∙ ap (λ i. eqb (bit_at (get_or row (get_or held (t / 64) 0) 0) i) 1) part

-- a bit that is set stands in a word
pub bit_early : (words : List ℕ) (t : ℕ) → word_bit words t ≡ true → t < 64 * length words
bit_early words t h = elim (cases_lt (t / 64) (length words)) [
  | inl low ↦ omega (arith, low)
  | inr high ↦ absurd (false≢true (sym (word_bit_past words t high) ∙ h))
]

-- ---- the bits of a word that another one hasn't
without_small : (x y : ℕ) → x < 2 → y < 2 → eqb ((x + min x y) % 2) 1 ≡ (eqb x 1 && not (eqb y 1))
without_small zero zero h k = refl
without_small zero (suc zero) h k = refl
without_small zero (suc (suc y)) h k = absurd (omega (arith, k))
without_small (suc zero) zero h k = refl
without_small (suc zero) (suc zero) h k = refl
without_small (suc zero) (suc (suc y)) h k = absurd (omega (arith, k))
without_small (suc (suc x)) y h k = absurd (omega (arith, h))

pub bit_without : (a b i : ℕ) → eqb (bit_at (bit_xor a (bit_and a b)) i) 1 ≡ (eqb (bit_at a i) 1 && not (eqb (bit_at b i) 1))
bit_without a b i =
    ap (λ x. eqb x 1) (bit_at_xor a (bit_and a b) i ∙ ap (λ y. (bit_at a i + y) % 2) (bit_at_and a b i)) ∙ without_small (bit_at a i) (bit_at b i) (bit_at-lt a i) (bit_at-lt b i)

pub and_small : (a b : ℕ) → a < 2 ^ 64 → bit_and a b < 2 ^ 64
and_small a b fits = omega (arith, fits, and_le_l a b)

-- a word has the bits that each of some words has
both_small : (x y : ℕ) → x < 2 → y < 2 → eqb (min x y) 1 ≡ (eqb x 1 && eqb y 1)
both_small zero zero h k = refl
both_small zero (suc zero) h k = refl
both_small zero (suc (suc y)) h k = absurd (omega (arith, k))
both_small (suc zero) zero h k = refl
both_small (suc zero) (suc zero) h k = refl
both_small (suc zero) (suc (suc y)) h k = absurd (omega (arith, k))
both_small (suc (suc x)) y h k = absurd (omega (arith, h))

pub bit_both : (a b i : ℕ) → eqb (bit_at (bit_and a b) i) 1 ≡ (eqb (bit_at a i) 1 && eqb (bit_at b i) 1)
bit_both a b i = ap (λ x. eqb x 1) (bit_at_and a b i) ∙ both_small (bit_at a i) (bit_at b i) (bit_at-lt a i) (bit_at-lt b i)

-- ---- what passes, word by word
-- the first `count` words are those bits of the words that the row hasn't
pub record IsPassed (held words row : List ℕ) (count : ℕ) (passed : List ℕ) : Type 0 where
  pub long : length passed ≡ length held
  pub each : (j i : ℕ) → j < count → eqb (bit_at (get_or passed j 0) i) 1 ≡ (eqb (bit_at (get_or words j 0) i) 1 && not (eqb (bit_at (get_or row (get_or held j 0) 0) i) 1))

module _ (held words row : List ℕ) where
  pub passed_begin : (passed : List ℕ) → length passed ≡ length held → IsPassed held words row 0 passed
  passed_begin passed long = record { long = long; each = λ j i low. absurd (omega (arith, low)) }

  -- one word more
  pub passed_more : (at x : ℕ) (passed : List ℕ) → IsPassed held words row at passed → at < length held → ((i : ℕ) → eqb (bit_at x i) 1 ≡ (eqb (bit_at (get_or words at 0) i) 1 && not (eqb (bit_at (get_or row (get_or held at 0) 0) i) 1))) → IsPassed held words row (at + 1) (set passed at x)
  passed_more at x passed p low is = record {
    long = length-set passed at x ∙ p.long;
    each = λ j i early. elim (cases_eq j at) [
      | inl q ↦
          let read : get_or (set passed at x) j 0 ≡ x = ap (λ k. get_or (set passed at x) k 0) q ∙ get_or-set_same passed at x 0 (omega (arith, low, p.long)) in
          ap (λ y. eqb (bit_at y i) 1) read ∙ is i ∙ ap (λ k. eqb (bit_at (get_or words k 0) i) 1 && not (eqb (bit_at (get_or row (get_or held k 0) 0) i) 1)) (sym q)
      | inr q ↦ ap (λ y. eqb (bit_at y i) 1) (get_or-set_other passed at j x 0 q) ∙ p.each j i (omega (arith, early, q))
    ];
  }

  pub passed_all : (count : ℕ) (passed : List ℕ) → IsPassed held words row count passed → count ≡ length held → (t : ℕ) → t < 64 * length held → word_bit passed t ≡ (word_bit words t && not (word_bit row (location_at held t)))
  passed_all count passed i end t low =
      i.each (t / 64) (t % 64) (omega (arith, low, end)) ∙ ap (λ (b : Bool). word_bit words t && not b) (sym (bit_there held row t))

  -- ---- what meets, word by word
  pub none_meet_more : (j : ℕ) → bit_and (get_or words j 0) (get_or row (get_or held j 0) 0) ≡ 0 → ((t : ℕ) → t < 64 * j → word_bit words t ≡ true → word_bit row (location_at held t) ≡ true → ⊥) → (t : ℕ) → t < 64 * (j + 1) → word_bit words t ≡ true → word_bit row (location_at held t) ≡ true → ⊥
  none_meet_more j zero_ before t low here there = elim (cases_lt t (64 * j)) [
    | inl early ↦ before t early here there
    | inr late ↦
        let place : t / 64 ≡ j = omega (arith, low, late) in
        let a : eqb (bit_at (get_or words j 0) (t % 64)) 1 ≡ true = ap (λ k. eqb (bit_at (get_or words k 0) (t % 64)) 1) (sym place) ∙ here in
        let b : eqb (bit_at (get_or row (get_or held j 0) 0) (t % 64)) 1 ≡ true = ap (λ k. eqb (bit_at (get_or row (get_or held k 0) 0) (t % 64)) 1) (sym place) ∙ sym (bit_there held row t) ∙ there in
        let both = bit_both (get_or words j 0) (get_or row (get_or held j 0) 0) (t % 64) in
        let set_ : (eqb (bit_at (get_or words j 0) (t % 64)) 1 && eqb (bit_at (get_or row (get_or held j 0) 0) (t % 64)) 1) ≡ true = ap (λ x. x && eqb (bit_at (get_or row (get_or held j 0) 0) (t % 64)) 1) a ∙ b in
        false≢true (sym (no_bit (bit_and (get_or words j 0) (get_or row (get_or held j 0) 0)) (t % 64) zero_) ∙ both ∙ set_)
  ]

  pub meets_at : (j b : ℕ) → j < length held → b < 64 → bit_at (get_or words j 0) b ≡ 1 → bit_at (get_or row (get_or held j 0) 0) b ≡ 1 → Meets held words row
  meets_at j b low small here there =
      let place : (64 * j + b) / 64 ≡ j = omega (arith, small) in
      let part : (64 * j + b) % 64 ≡ b = omega (arith, small) in
      record {
        bit = 64 * j + b;
        early = omega (arith, low, small);
        here = ap (λ i. eqb (bit_at (get_or words i 0) ((64 * j + b) % 64)) 1) place ∙ ap (λ i. eqb (bit_at (get_or words j 0) i) 1) part ∙ ap (λ x. eqb x 1) here;
        there = bit_there held row (64 * j + b) ∙ ap (λ i. eqb (bit_at (get_or row (get_or held i 0) 0) ((64 * j + b) % 64)) 1) place ∙ ap (λ i. eqb (bit_at (get_or row (get_or held j 0) 0) i) 1) part ∙ ap (λ x. eqb x 1) there;
      }

  -- where two words have a bit in common, it is that of a location
  pub meet_here : (j : ℕ) → j < length held → 0 < bit_and (get_or words j 0) (get_or row (get_or held j 0) 0) → bit_and (get_or words j 0) (get_or row (get_or held j 0) 0) < 2 ^ 64 → Meets held words row
  meet_here j low some small =
      let a : ℕ = get_or words j 0 in
      let b : ℕ = get_or row (get_or held j 0) 0 in
      let found = bit_at-trailing_zeros w64 (bit_and a b) some small in
      let k : ℕ = trailing_zeros w64 (bit_and a b) in
      let both : min (bit_at a k) (bit_at b k) ≡ 1 = sym (bit_at_and a b k) ∙ found.1 in
      meets_at j k low found.0 (ones (bit_at a k) (bit_at b k) (bit_at-lt a k) (bit_at-lt b k) both).0 (ones (bit_at a k) (bit_at b k) (bit_at-lt a k) (bit_at-lt b k) both).1
    where
      ones : (x y : ℕ) → x < 2 → y < 2 → min x y ≡ 1 → (x ≡ 1) × (y ≡ 1)
      ones zero zero h k e = absurd (omega (arith, e))
      ones zero (suc y) h k e = absurd (omega (arith, e))
      ones (suc x) zero h k e = absurd (omega (arith, e))
      ones (suc x) (suc y) h k e = (omega (arith, h), omega (arith, k))

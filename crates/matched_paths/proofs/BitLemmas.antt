-- One bit of words is set, and how many bits are.
use Rattle.std.proofs.Common.{◌≡◌, ◌≢◌, ℕ, zero, suc, ◌+◌, ◌*◌, ◌/◌, ◌%◌, ◌^◌, ◌<◌, ◌≤◌, Bool, true, false, ◌||◌, ◌==◌, eqb, List, length, get_or, set, inl, inr, refl, sym, ap, ◌∙◌, subst, arith}
use Rattle.std.specs.Prelude.{if◌then◌else◌}
use Rattle.std.proofs.lemmas.List.{get_or-set_same, get_or-set_other}
use Rattle.std.proofs.lemmas.Nat.Bits.{bit_at_set_same, bit_at_set_other}
use Rattle.std.proofs.lemmas.Bool.{cases_eq, eq-eqb, or_right}
use Rattle.std.proofs.lemmas.Bool.Decides.{nat_tests}
use Rattle.std.specs.Int.{bit_at}
use Rattle.std.specs.Int.Bits.{bit_or}
use Rattle.bit_rows.specs.Words.{word_bit}
use Rattle.matched_paths.specs.Places.{HasOneMore, bits_below}
use mir.Syntax.{w64}

pub or_none : (b : Bool) → (b || false) ≡ b
or_none true = refl
or_none false = refl

abbrev with_bit : List ℕ → ℕ → List ℕ
with_bit ws b = set ws (b / 64) (bit_or (get_or ws (b / 64) 0) (1 * 2 ^ (b % 64) % 2 ^ 64))

here : (ws : List ℕ) (b : ℕ) → b / 64 < length ws → word_bit (with_bit ws b) b ≡ true
here ws b low =
    ap (λ v. eqb (bit_at v (b % 64)) 1) (get_or-set_same ws (b / 64) _ 0 low) ∙ eq-eqb _ 1 (bit_at_set_same w64 (get_or ws (b / 64) 0) (b % 64) (omega arith))

elsewhere : (ws : List ℕ) (b i : ℕ) → b / 64 < length ws → i ≢ b → word_bit (with_bit ws b) i ≡ word_bit ws i
elsewhere ws b i low other = elim (cases_eq (i / 64) (b / 64)) [
  | inl same ↦
      let ne : i % 64 ≢ b % 64 = λ e. other (omega (arith, same, e)) in
      ap (λ j. eqb (bit_at (get_or (with_bit ws b) j 0) (i % 64)) 1) same
      ∙ ap (λ v. eqb (bit_at v (i % 64)) 1) (get_or-set_same ws (b / 64) _ 0 low)
      ∙ ap (λ v. eqb v 1) (bit_at_set_other w64 (get_or ws (b / 64) 0) (b % 64) (omega arith) (i % 64) ne)
      ∙ ap (λ j. eqb (bit_at (get_or ws j 0) (i % 64)) 1) (sym same)
  | inr ne ↦ ap (λ v. eqb (bit_at v (i % 64)) 1) (get_or-set_other ws (b / 64) (i / 64) _ 0 ne)
]

-- where x is the word that was read
pub bit_set : (ws : List ℕ) (b x : ℕ) → b / 64 < length ws → x ≡ get_or ws (b / 64) 0 → HasOneMore b ws (set ws (b / 64) (bit_or x (1 * 2 ^ (b % 64) % 2 ^ 64)))
bit_set ws b x low read = subst (λ y. HasOneMore b ws (set ws (b / 64) (bit_or y (1 * 2 ^ (b % 64) % 2 ^ 64)))) (sym read) (λ i. elim (cases_eq i b) [
  | inl same ↦
      let t : (i == b) ≡ true = grind (arith, nat_tests, same) in
      ap (word_bit (with_bit ws b)) same ∙ here ws b low ∙ sym (or_right (word_bit ws i) (i == b) t)
  | inr other ↦
      let f : (i == b) ≡ false = grind (arith, nat_tests, other) in
      elsewhere ws b i low other ∙ sym (ap (λ t. word_bit ws i || t) f ∙ or_none (word_bit ws i))
])

-- ---- counts
abbrev one_if : Bool → ℕ
one_if b = if b then 1 else 0

pub few_bits : (n : ℕ) (ws : List ℕ) → bits_below n ws ≤ n
few_bits zero ws = omega arith
few_bits (suc n) ws = by_test (word_bit ws n) (few_bits n ws)
  where
    by_test : (b : Bool) → bits_below n ws ≤ n → bits_below n ws + one_if b ≤ suc n
    by_test true h = omega (arith, h)
    by_test false h = omega (arith, h)

same_count : (n b : ℕ) (old new : List ℕ) → HasOneMore b old new → n ≤ b → bits_below n new ≡ bits_below n old
same_count zero b old new h le = refl
same_count (suc n) b old new h le =
    let f : (n == b) ≡ false = grind (arith, nat_tests, le) in
    let bit : word_bit new n ≡ word_bit old n = h n ∙ ap (λ t. word_bit old n || t) f ∙ or_none (word_bit old n) in
    ap (λ t. bits_below n new + one_if t) bit ∙ ap (λ k. k + one_if (word_bit old n)) (same_count n b old new h (omega (arith, le)))

pub one_counted : (n b : ℕ) (old new : List ℕ) → HasOneMore b old new → word_bit old b ≡ false → b < n → bits_below n new ≡ bits_below n old + 1
one_counted zero b old new h none lt = absurd (omega (arith, lt))
one_counted (suc n) b old new h none lt = elim (cases_eq n b) [
  | inl same ↦
      let t : (n == b) ≡ true = grind (arith, nat_tests, same) in
      let now : word_bit new n ≡ true = h n ∙ or_right (word_bit old n) (n == b) t in
      let before : word_bit old n ≡ false = ap (word_bit old) same ∙ none in
      let plain : bits_below n old + 0 ≡ bits_below n old = omega arith in
      ap (λ u. bits_below n new + one_if u) now ∙ ap (λ k. k + 1) (same_count n b old new h (omega (arith, same)) ∙ sym plain ∙ ap (λ u. bits_below n old + one_if u) (sym before))
  | inr other ↦
      let f : (n == b) ≡ false = grind (arith, nat_tests, other) in
      let bit : word_bit new n ≡ word_bit old n = h n ∙ ap (λ t. word_bit old n || t) f ∙ or_none (word_bit old n) in
      let rest = one_counted n b old new h none (omega (arith, lt, other)) in
      ap (λ t. bits_below n new + one_if t) bit ∙ swap (bits_below n new) (bits_below n old) (one_if (word_bit old n)) rest
]
  where
    swap : (x y k : ℕ) → x ≡ y + 1 → x + k ≡ y + k + 1
    swap x y k e = omega (arith, e)

pub none_set : (n : ℕ) (ws : List ℕ) → ((i : ℕ) → word_bit ws i ≡ false) → bits_below n ws ≡ 0
none_set zero ws h = refl
none_set (suc n) ws h = ap (λ b. bits_below n ws + one_if b) (h n) ∙ (let e = none_set n ws h in omega (arith, e))

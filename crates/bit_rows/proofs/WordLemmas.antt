-- Sets in words, for this crate and those above: which numbers words hold, and the bits of an or of words.
use Rattle.std.proofs.Common.{◌≡◌, ℕ, zero, suc, ◌/◌, ◌%◌, ◌<◌, ◌≤◌, false, ◌||◌, eqb, List, length, get_or, refl, ap, ◌∙◌, arith, max}
use Rattle.std.proofs.lemmas.List.{get_or_past}
use Rattle.std.proofs.lemmas.List.FromFn.{get_or-map-range_with_len, length-map-range_with_len}
use Rattle.std.proofs.lemmas.Nat.Bits.{bit_at-zero, bit_at_or, bit_at-lt}
use Rattle.std.specs.Int.{bit_at}
use Rattle.std.specs.Int.Bits.{bit_or}
use Rattle.bit_rows.specs.Sets.{has}
use Rattle.bit_rows.specs.Words.{word_bit, set_of}

-- ---- the set that words hold
pub length-set_of : (n : ℕ) (ws : List ℕ) → length (set_of n ws) ≡ n
length-set_of n ws = length-map-range_with_len (word_bit ws) 0 n

pub has-set_of : (n : ℕ) (ws : List ℕ) (i : ℕ) → i < n → has (set_of n ws) i ≡ word_bit ws i
has-set_of n ws i h = get_or-map-range_with_len (word_bit ws) 0 n i i false h (omega arith)

-- ---- words without a bit
-- no bit of a word that is 0 is set
pub no_bit : (x i : ℕ) → x ≡ 0 → eqb (bit_at x i) 1 ≡ false
no_bit x i h = ap (λ y. eqb (bit_at y i) 1) h ∙ ap (λ y. eqb y 1) (bit_at-zero i)

pub word_bit_past : (ws : List ℕ) (i : ℕ) → length ws ≤ i / 64 → word_bit ws i ≡ false
word_bit_past ws i h = no_bit (get_or ws (i / 64) 0) (i % 64) (get_or_past ws (i / 64) 0 h)

-- ---- unions
max_bit : (x y : ℕ) → x < 2 → y < 2 → eqb (max x y) 1 ≡ (eqb x 1 || eqb y 1)
max_bit zero zero h k = refl
max_bit zero (suc zero) h k = refl
max_bit zero (suc (suc y)) h k = absurd (omega arith)
max_bit (suc zero) zero h k = refl
max_bit (suc zero) (suc zero) h k = refl
max_bit (suc zero) (suc (suc y)) h k = absurd (omega arith)
max_bit (suc (suc x)) y h k = absurd (omega arith)

-- a bit of an or is that of either word
pub or_bit : (a b i : ℕ) → eqb (bit_at (bit_or a b) i) 1 ≡ (eqb (bit_at a i) 1 || eqb (bit_at b i) 1)
or_bit a b i = ap (λ x. eqb x 1) (bit_at_or a b i) ∙ max_bit (bit_at a i) (bit_at b i) (bit_at-lt a i) (bit_at-lt b i)

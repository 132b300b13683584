-- How 64-bit words hold a set of numbers: number i is bit i % 64 of word i / 64.
use Rattle.std.specs.Prelude.{ℕ, ◌+◌, ◌-◌, ◌*◌, ◌/◌, ◌%◌, ◌^◌, ◌<◌, ◌≤◌, Bool, false, eqb, List, map, get_or, take, drop, length, ◌≡◌}
use Rattle.std.specs.List.{range_with_len}
use Rattle.std.specs.Int.{bit_at}
use Rattle.std.specs.Int.Bits.{bit_or}
use Rattle.std.specs.Simd.Lanes.{zip2}

-- whether the bit of a number is set in a list of words
abbrev pub word_bit : List ℕ → ℕ → Bool
word_bit ws i = eqb (bit_at (get_or ws (i / 64) 0) (i % 64)) 1

-- the set of the numbers below n whose bits are set
abbrev pub set_of : ℕ → List ℕ → List Bool
set_of n ws = map (word_bit ws) (range_with_len 0 n)

-- no number at or past n has its bit set
abbrev pub IsClean : ℕ → List ℕ → Type 0
IsClean n ws = (i : ℕ) → n ≤ i → word_bit ws i ≡ false

-- the union of two lists of words that are equally long
abbrev pub union_words : List ℕ → List ℕ → List ℕ
union_words ws vs = zip2 bit_or ws vs

-- the words from `at` on, as many as `from` has, are joined with it, and no others change
pub record IsJoinedAt (at : ℕ) (from old new : List ℕ) : Type 0 where
  pub long : length new ≡ length old
  pub inside : (k : ℕ) → at ≤ k → k < at + length from → get_or new k 0 ≡ bit_or (get_or old k 0) (get_or from (k - at) 0)
  pub before : (k : ℕ) → k < at → get_or new k 0 ≡ get_or old k 0
  pub after : (k : ℕ) → at + length from ≤ k → get_or new k 0 ≡ get_or old k 0

-- `len` words from `at` on are 0, and no others change
pub record IsClearedAt (at len : ℕ) (old new : List ℕ) : Type 0 where
  pub long : length new ≡ length old
  pub inside : (k : ℕ) → at ≤ k → k < at + len → get_or new k 0 ≡ 0
  pub before : (k : ℕ) → k < at → get_or new k 0 ≡ get_or old k 0
  pub after : (k : ℕ) → at + len ≤ k → get_or new k 0 ≡ get_or old k 0

-- each is a word of 64 bits
abbrev pub AreWords : List ℕ → Type 0
AreWords ws = (k : ℕ) → get_or ws k 0 < 2 ^ 64

-- the words of row r, where each row has `width` of them and the rows lie one after another
abbrev pub row_words : ℕ → List ℕ → ℕ → List ℕ
row_words width ws r = take width (drop (r * width) ws)

-- the sets of numbers below n that the first `rows` rows hold
abbrev pub sets_of : ℕ → ℕ → ℕ → List ℕ → List (List Bool)
sets_of n width rows ws = map (λ r. set_of n (row_words width ws r)) (range_with_len 0 rows)

-- the words are those of `rows` rows, each with as many words as numbers below n need, and clean
pub record AreLaidOut (n width rows : ℕ) (ws : List ℕ) : Type 0 where
  pub width_is : width ≡ (n + 63) / 64
  pub length_is : length ws ≡ rows * width
  pub small : (n < 2 ^ 32) × (rows < 2 ^ 32)
  pub clean : (r : ℕ) → r < rows → IsClean n (row_words width ws r)

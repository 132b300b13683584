-- Words of 64 bits that hold facts: fact number i is bit i % 64 of word i / 64.
use Rattle.std.specs.Prelude.{◌≡◌, ℕ, true, List, [], ◌∷◌, slice_index, bit_or, bit_and}
use mir.Syntax.{w64}
use Rattle.std.specs.Int.{bit_at, bit_not}
use Rattle.bit_rows.specs.Words.{word_bit}

-- the words hold a fact
abbrev pub Holds : List ℕ → ℕ → Type 0
Holds ws n = word_bit ws n ≡ true

-- the second words hold each fact of the first
abbrev pub AreWithin : List ℕ → List ℕ → Type 0
AreWithin xs ys = (n : ℕ) → Holds xs n → Holds ys n

-- each bit that is set in one word is set in the other
abbrev pub IsWithin : ℕ → ℕ → Type 0
IsWithin x y = (i : ℕ) → bit_at x i ≡ 1 → bit_at y i ≡ 1

-- bit i of word w, as a number
abbrev pub bit : List ℕ → ℕ → ℕ → ℕ
bit ws w i = bit_at (slice_index ws w) i

-- the bits of both, word by word, where there are as many of the one as of the other
abbrev pub union : List ℕ → List ℕ → List ℕ
union [] ys = []
union (x ∷ xs) [] = x ∷ xs
union (x ∷ xs) (y ∷ ys) = bit_or x y ∷ union xs ys

-- those of the bits that a word lacks
abbrev pub new_bits : ℕ → ℕ → ℕ
new_bits bits found = bit_and bits (bit_not w64 found)

-- The words of a row that aren't 0, one behind the other, and the locations of their bits.
use Rattle.std.specs.Prelude.{◌≡◌, ℕ, ◌+◌, ◌*◌, ◌/◌, ◌%◌, ◌<◌, ◌⊎◌, true, List, length, get_or, Contains}
use Rattle.bit_rows.specs.Words.{word_bit}

-- the location of bit number t of the held words, of which word j is word number `held j` of a row
abbrev pub location_at : List ℕ → ℕ → ℕ
location_at held t = 64 * get_or held (t / 64) 0 + t % 64

-- the numbers of words of a row, and these words; a word that isn't held is 0
pub record AreHeld (row held words : List ℕ) : Type 0 where
  pub long : length words ≡ length held
  pub inside : (j : ℕ) → j < length held → get_or held j 0 < length row
  pub same : (j : ℕ) → j < length held → get_or words j 0 ≡ get_or row (get_or held j 0) 0
  pub whole : (i : ℕ) → i < length row → (get_or row i 0 ≡ 0) ⊎ Contains held i

-- one of the held bits is set, and so is that of its location in a whole row
pub record Meets (held words row : List ℕ) : Type 0 where
  pub bit : ℕ
  pub early : bit < 64 * length held
  pub here : word_bit words bit ≡ true
  pub there : word_bit row (location_at held bit) ≡ true

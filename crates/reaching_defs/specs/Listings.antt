-- Sets of numbers below a bound, with lists of what they have.
use Rattle.std.specs.Prelude.{◌≡◌, ◌≢◌, ℕ, ◌<◌, ◌≤◌, ◌↔◌, Bool, List, IsTrue, length, get_or, Contains, AllPairs}
use Rattle.bit_rows.specs.Sets.{has, count_of}

-- numbers below a bound, in the order in which they came
pub record Listing : Type 0 where
  pub bound : ℕ
  pub members : List ℕ

-- the marks are those of the numbers in the list, each of which is there once, and there is room for all
pub record AreMarked (marks : List Bool) (members : List ℕ) (room : ℕ) : Type 0 where
  pub exact : (w : ℕ) → IsTrue (has marks w) ↔ Contains members w
  pub few : length members ≤ count_of marks
  pub distinct : AllPairs (λ a b. a ≢ b) members
  pub wide : length marks ≤ room

-- the second list begins with the first
pub record GoesOn (old new : List ℕ) : Type 0 where
  pub more : length old ≤ length new
  pub front : (i : ℕ) → i < length old → get_or new i 0 ≡ get_or old i 0

-- w is one of the first `count` of a list
abbrev pub IsAmongFirst : List ℕ → ℕ → ℕ → Type 0
IsAmongFirst xs count w = (i : ℕ) × (i < count) × (get_or xs i w ≡ w)

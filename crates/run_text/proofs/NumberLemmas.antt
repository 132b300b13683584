-- Statements counted from 1 among those of a set.
use Rattle.std.proofs.Common.{◌≡◌, ℕ, ◌<◌, ◌≤◌, Bool, List, length, get_or}
use Rattle.run_text.specs.Lines.{count_below, number_among}

-- the numbers of the first places, and how many of these are in the set
pub record AreNumbers (set : ℕ → Bool) (n before : ℕ) (numbers : List ℕ) : Type 0 where
  pub size : length numbers ≡ n
  pub before_is : before ≡ count_below set n
  pub few : before ≤ n
  pub each : (i : ℕ) → i < n → get_or numbers i 0 ≡ number_among set i

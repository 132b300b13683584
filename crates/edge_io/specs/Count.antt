-- Counts of 64 bits that stay at their greatest value.
use Rattle.std.specs.Prelude.{◌≡◌, ◌⊎◌, ℕ, ◌+◌, ◌-◌, ◌^◌, ◌<◌, ◌≤◌, min}

-- the count after one more
abbrev pub one_more : ℕ → ℕ
one_more n = min (n + 1) (2 ^ 64 - 1)

-- the count didn't fall between these two moments
abbrev pub NeverFalls : ℕ → ℕ → Type 0
NeverFalls before after = before ≤ after

-- the count rose between these two moments, or stands at its greatest value
abbrev pub Rose : ℕ → ℕ → Type 0
Rose before after = (before < after) ⊎ (after ≡ 2 ^ 64 - 1)

-- the count rises by one where this holds, and else stays
abbrev pub Counts : Type 0 → ℕ → ℕ → Type 0
Counts happened before after = (happened → after ≡ one_more before) × (¬ happened → after ≡ before)

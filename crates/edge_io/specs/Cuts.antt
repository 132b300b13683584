-- Lists of puts that fail: each the number of a put, and how many bytes it takes before that.
use Rattle.std.specs.Prelude.{ℕ, ◌==◌, List, find, Option}
use Rattle.std.specs.Option.{option_map}

-- how many bytes this put takes before it fails, by the first pair with its number
abbrev pub taken_before_fault : List (ℕ × ℕ) → ℕ → Option ℕ
taken_before_fault failing number = option_map (λ pair. pair.1) (find (λ pair. pair.0 == number) failing)

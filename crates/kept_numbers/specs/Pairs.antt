-- Pairs of numbers of which some are marked, as rows of tests.
use Rattle.std.specs.Prelude.{◌≡◌, ℕ, Bool, ◌||◌, List, [], map, slice_index_or}
use Rattle.std.specs.declared.vec.Vec.{Vec}
use Rattle.std.specs.declared.alloc.Global.{Global}
use Rattle.bit_rows.specs.Sets.{has}

-- rows of tests
abbrev pub rows_of : Vec (Vec Bool Global) Global → List (List Bool)
rows_of t = map (λ (r : Vec Bool Global). r.items) t.items

-- whether a pair is marked
abbrev pub marked : List (List Bool) → ℕ → ℕ → Bool
marked t i = has (slice_index_or t i [])

-- the second table has the marks of the first, and the pairs that pass the test
abbrev pub AddsPairs : List (List Bool) → List (List Bool) → (ℕ → ℕ → Bool) → Type 0
AddsPairs old new test = (i n : ℕ) → marked new i n ≡ (marked old i n || test i n)

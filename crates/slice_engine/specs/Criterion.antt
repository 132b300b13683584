-- Sets of statements as lists of tests, as they are found in one pass.
use Rattle.std.specs.Prelude.{ℕ, zero, suc, ◌==◌, ◌&&◌, List, [], ◌∷◌, ◌++◌, Bool, true, false, slice_set}
use Rattle.std.specs.List.{list_any}
use Rattle.c_tree.specs.declared.numbered.Start.{Start}
use Rattle.c_tree.specs.Numbered.{Starts}

-- whether statement i is among those of a list that start on a line
abbrev pub starts_among : ℕ → Starts → ℕ → Bool
starts_among line ss i = list_any (λ (s : Start). (s.id == i) && (s.line == line)) ss

abbrev pub marked_if : Bool → ℕ → List Bool → List Bool
marked_if true v x = slice_set x v true
marked_if false v x = x

abbrev pub put_if : {A : Type 0} → Bool → A → List A → List A
put_if true x xs = x ∷ xs
put_if false x xs = xs

-- of the first n numbers those that are kept, in order: for each whether the test passes
abbrev pub by_rank : (ℕ → Bool) → (ℕ → Bool) → ℕ → List Bool
by_rank keeps test zero = []
by_rank keeps test (suc n) = by_rank keeps test n ++ put_if (keeps n) (test n) []

-- The lines that a header shows, as they are found in one pass.
use Rattle.std.specs.Prelude.{ℕ, suc, List, [], ◌∷◌, Bool}
use Rattle.slice_engine.specs.Criterion.{put_if}

-- the lines where the first list's test holds, each behind a header of one line
abbrev pub shown_lines : List Bool → List ℕ → List ℕ
shown_lines [] ls = []
shown_lines (b ∷ bs) [] = []
shown_lines (b ∷ bs) (l ∷ ls) = put_if b (suc l) (shown_lines bs ls)

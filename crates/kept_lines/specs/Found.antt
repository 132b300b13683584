-- The lines of statements that pass a test, as they are found in one pass.
use Rattle.std.specs.Prelude.{ℕ, List, [], ◌∷◌, Bool}
use Rattle.c_tree.specs.Numbered.{Starts}
use Rattle.slice_engine.specs.Criterion.{put_if}

-- the lines on which those of some statements start that pass the test
abbrev pub lines_where : (ℕ → Bool) → Starts → List ℕ
lines_where test [] = []
lines_where test (s ∷ ss) = put_if (test s.id) s.line (lines_where test ss)

-- The lines of a program's text that its slices keep, and the text that tells them.
use Rattle.std.specs.Prelude.{◌≡◌, ◌↔◌, ℕ, ◌<◌, List, [], ◌∷◌, ◌++◌, map, Contains, AllPairs, Bool, true, codes}
use Rattle.std.specs.Fmt.{decimal}
use Rattle.c_tree.specs.declared.program.Program.{Program}
use Rattle.c_language.specs.Words.{Bytes}
use Rattle.dep_model.specs.SystemGraph.{Analysis}
use Rattle.slice_engine.specs.declared.engine.Criterion.{Criterion}
use Rattle.slice_engine.specs.Slice.{IsKeptSet, keeps, starts_on, spaced}

-- a statement that a set of vertices keeps starts on a line
pub record IsKeptOn (p : Program) (a : Analysis) (kept : List Bool) (line : ℕ) : Type 0 where
  pub statement : ℕ
  pub is_kept : keeps p a kept statement ≡ true
  pub starts : starts_on p line statement ≡ true

-- these are the lines on which the statements start that the slice at a line keeps, ascending and each once
pub record AreKeptLines (p : Program) (line : ℕ) (lines : List ℕ) : Type 0 where
  pub analysis : Analysis
  pub kept : List Bool
  pub is_kept : IsKeptSet p analysis line kept
  pub ascending : AllPairs (λ k l. k < l) lines
  pub members : (k : ℕ) → Contains lines k ↔ IsKeptOn p analysis kept k

-- the row of a line that is asked for: its number, a colon, and each kept line behind a space
abbrev pub row : ℕ → List ℕ → Bytes
row line lines = decimal line ++ (codes ":" ++ (spaced lines ++ codes "\n"))

-- the text has a row for each line that is asked for, in their order, with the lines that the slice there keeps
abbrev pub IsLinesText : Program → List ℕ → Bytes → Type 0
IsLinesText p [] text = text ≡ []
IsLinesText p (line ∷ rest) text = (lines : List ℕ) × (behind : Bytes) × AreKeptLines p line lines × IsLinesText p rest behind × (text ≡ row line lines ++ behind)

-- the lines of criteria
abbrev pub lines_of : List Criterion → List ℕ
lines_of = map (λ (c : Criterion). c.line)

-- The slice of a program at a line: the vertices that it keeps, its program and its text.
use Rattle.std.specs.Prelude.{◌≡◌, ◌↔◌, ℕ, suc, ◌<◌, ◌==◌, ◌&&◌, List, [], ◌∷◌, ◌++◌, length, Bool, true, Contains, AllPairs, IsTrue, codes}
use Rattle.std.specs.List.{list_any}
use Rattle.std.specs.Fmt.{decimal}
use Rattle.bit_rows.specs.Sets.{has}
use Rattle.c_tree.specs.declared.program.Program.{Program}
use Rattle.c_tree.specs.declared.numbered.Start.{Start}
use Rattle.c_tree.specs.Numbered.{program_starts}
use Rattle.c_tree.specs.Unlined.{SameButLines}
use Rattle.c_language.specs.Words.{Bytes}
use Rattle.c_language.specs.Layout.{layout}
use Rattle.c_print.specs.Lines.{line_of}
use Rattle.c_print.specs.StartsOn.{StartsOn}
use Rattle.c_reader.specs.Reading.{ReadsProgram}
use Rattle.dep_model.specs.declared.edge.Edge.{Edge}
use Rattle.dep_model.specs.Words.{ReachesAny}
use Rattle.dep_model.specs.ClosedSets.{IsCompletionIn}
use Rattle.dep_model.specs.Criteria.{criterion_of}
use Rattle.dep_model.specs.SystemGraph.{Analysis, IsAnalysis, vertices_of, AreSystemEdges}
use Rattle.kept_numbers.specs.Ranks.{rank}
use Rattle.projection.specs.KeptVertices.{kept_words, kept_of, projection}
use Rattle.simulation_values.specs.SameValues.{HasSameValues}
use Rattle.own_words.specs.OwnWords.{KeepsWords}

-- whether a statement starts on a line
abbrev pub starts_on : Program → ℕ → ℕ → Bool
starts_on p line i = list_any (λ (s : Start). (s.id == i) && (s.line == line)) (program_starts p)

-- some statement starts on a line
abbrev pub HasStart : Program → ℕ → Type 0
HasStart p line = (i : ℕ) × (starts_on p line i ≡ true)

-- the vertices of the statements that start on a line
abbrev pub criterion : Program → Analysis → ℕ → List Bool
criterion p a line = criterion_of (starts_on p line) (vertices_of p a)

-- a set of exactly the vertices that reach a set by matched words
pub record IsReached (edges : List Edge) (x r : List Bool) : Type 0 where
  pub size : length r ≡ length x
  pub members : (v : ℕ) → IsTrue (has r v) ↔ ReachesAny edges x v

-- the vertices that a slice keeps: the completion of what reaches the criterion, in the system graph of the program
pub record IsKeptSet (p : Program) (a : Analysis) (line : ℕ) (kept : List Bool) : Type 0 where
  pub is_analysis : IsAnalysis p a
  pub edges : List Edge
  pub are_edges : AreSystemEdges p a edges
  pub reached : List Bool
  pub is_reached : IsReached edges (criterion p a line) reached
  pub completes : IsCompletionIn p (vertices_of p a) edges reached kept

-- which statements a set of vertices keeps
abbrev pub keeps : Program → Analysis → List Bool → ℕ → Bool
keeps p a kept = (kept_words kept (vertices_of p a)).statement

-- the program of the slice that keeps these vertices
abbrev pub sliced : Program → Analysis → List Bool → Program
sliced p a kept = projection p (vertices_of p a) kept

-- in the slice's text, whose first line is the header, a line is the one on which a statement of the program starts
pub record IsStartLine (p : Program) (a : Analysis) (kept : List Bool) (i k : ℕ) : Type 0 where
  pub starts : StartsOn (sliced p a kept) (rank (keeps p a kept) i) (line_of (sliced p a kept) (rank (keeps p a kept) i))
  pub behind_header : k ≡ suc (line_of (sliced p a kept) (rank (keeps p a kept) i))

-- the lines of the criterion's statements in the slice's text
pub record AreLines (p : Program) (a : Analysis) (line : ℕ) (kept : List Bool) (lines : List ℕ) : Type 0 where
  pub ascending : AllPairs (λ k l. k < l) lines
  pub members : (k : ℕ) → Contains lines k ↔ ((i : ℕ) × (starts_on p line i ≡ true) × IsStartLine p a kept i k)

abbrev pub spaced : List ℕ → Bytes
spaced [] = []
spaced (k ∷ ks) = codes " " ++ (decimal k ++ spaced ks)

-- the header of a slice at a line, with the lines of its criterion
abbrev pub header : ℕ → List ℕ → Bytes
header line lines = codes "/* slice " ++ (decimal line ++ (codes ":" ++ (spaced lines ++ codes " */\n")))

-- the text of the slice of a program at a line
pub record IsSlice (p : Program) (line : ℕ) (text : Bytes) : Type 0 where
  pub analysis : Analysis
  pub kept : List Bool
  pub is_kept : IsKeptSet p analysis line kept
  pub lines : List ℕ
  pub are_lines : AreLines p analysis line kept lines
  pub text_is : text ≡ header line lines ++ layout (sliced p analysis kept)

-- whether a statement of the slice is one of the criterion
abbrev pub is_criterion : Program → Analysis → ℕ → List Bool → ℕ → Bool
is_criterion p a line kept j =
    list_any (λ (s : Start). (s.line == line) && (rank (keeps p a kept) s.id == j)) (program_starts p)

-- a program gives the values of another at the criterion, where it is that one's slice
abbrev pub GivesCriterion : Program → Analysis → ℕ → List Bool → Program → Type 0
GivesCriterion p a line kept q = HasSameValues (keeps p a kept) (starts_on p line) (is_criterion p a line kept) p q

-- a text is accepted: its program is the slice but for line numbers, and each kept statement has its own words in it, but for what a call loses
pub record IsAcceptedSlice (p : Program) (line : ℕ) (text : Bytes) : Type 0 where
  pub analysis : Analysis
  pub kept : List Bool
  pub is_kept : IsKeptSet p analysis line kept
  pub program : Program
  pub reads : ReadsProgram text program
  pub same_program : SameButLines program (sliced p analysis kept)
  pub own_words : KeepsWords p (kept_of kept (vertices_of p analysis) p)

-- it is accepted so, and the program that is read gives the same values at the criterion
pub record IsFaithful (p : Program) (line : ℕ) (text : Bytes) : Type 0 where
  pub accepted : IsAcceptedSlice p line text
  pub same_values : GivesCriterion p accepted.analysis line accepted.kept accepted.program

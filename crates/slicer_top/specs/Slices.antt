-- What a text and what is asked of it have to do with each other, and with the texts that are written for it.
use Rattle.std.specs.Prelude.{◌≡◌, ℕ, ◌<◌, ◌≤◌, List, [], ◌∷◌, ◌++◌, length, take, Option, slice_index_or}
use Rattle.edge_io.specs.Written.{Gains}
use Rattle.c_tree.specs.declared.limits.LimitName.{LimitName}
use Rattle.c_tree.specs.declared.program.Program.{Program}
use Rattle.c_language.specs.Words.{Bytes}
use Rattle.c_reader.specs.Reading.{ReadsProgram}
use Rattle.c_meaning.specs.Meaning.{Trace, meaning}
use Rattle.call_words.specs.Requests.{Asked, lines_in}
use Rattle.run_text.specs.Answers.{EndsWith}
use Rattle.run_text.specs.Lines.{trace_words}
use Rattle.slice_engine.specs.GraphLimits.{IsAboveGraphLimit}
use Rattle.slice_engine.specs.Slice.{HasStart, IsSlice, IsFaithful}
use Rattle.slicer_top.specs.Chops.{IsForwardText, IsChopText}
use Rattle.slicer_top.specs.Graphs.{IsGraphText, IsMembersText}
use Rattle.slicer_top.specs.SliceNumbers.{IsNumbersText}
use Rattle.slicer_top.specs.Runs.{RunEnds}

-- ---- the program of a text

-- a quantity of the program's graph is above its number, where the graph is made for this
abbrev pub IsAboveFor : Asked → Program → LimitName → Type 0
IsAboveFor (Asked.slice file lines workers) p name = IsAboveGraphLimit p name
IsAboveFor (Asked.trace file lines input steps) p name = ⊥
IsAboveFor (Asked.run file input steps) p name = ⊥
IsAboveFor (Asked.graph file workers) p name = IsAboveGraphLimit p name
IsAboveFor (Asked.members file line workers) p name = IsAboveGraphLimit p name
IsAboveFor (Asked.big seed size workers) p name = IsAboveGraphLimit p name
IsAboveFor (Asked.forward file line workers) p name = IsAboveGraphLimit p name
IsAboveFor (Asked.chop file from to workers) p name = IsAboveGraphLimit p name

-- the text is accepted and within the limits, this is its program, and its graph is within the limits, where it is made
pub record HasGraph (text : Bytes) (asked : Asked) (p : Program) : Type 0 where
  pub reads : ReadsProgram text p
  pub within : (name : LimitName) → IsAboveFor asked p name → ⊥

-- the graph of the text's program is within the limits
abbrev pub HasSmallGraph : Bytes → Type 0
HasSmallGraph text = (p : Program) (name : LimitName) → ReadsProgram text p → IsAboveGraphLimit p name → ⊥

-- a program has a statement, where the last one is asked for
abbrev pub HasLast : Asked → Program → Type 0
HasLast (Asked.slice file lines workers) p = Unit {0}
HasLast (Asked.trace file lines input steps) p = Unit {0}
HasLast (Asked.run file input steps) p = Unit {0}
HasLast (Asked.graph file workers) p = Unit {0}
HasLast (Asked.members file line workers) p = Unit {0}
HasLast (Asked.big seed size workers) p = 0 < p.statements
HasLast (Asked.forward file line workers) p = Unit {0}
HasLast (Asked.chop file from to workers) p = Unit {0}

abbrev pub HasLastOf : Bytes → Asked → Type 0
HasLastOf text asked = (p : Program) → ReadsProgram text p → HasLast asked p

-- ---- the lines that are asked for

abbrev pub line_at : List ℕ → ℕ → ℕ
line_at lines i = slice_index_or lines i 0

-- on each of the lines starts a statement of the program
abbrev pub StartOn : Program → List ℕ → Type 0
StartOn p lines = (i : ℕ) → i < length lines → HasStart p (line_at lines i)

-- this is the first of at most 64 lines on which no statement starts
pub record IsFirstWithout (p : Program) (lines : List ℕ) (line : ℕ) : Type 0 where
  pub few : length lines ≤ 64
  pub place : ℕ
  pub within : place < length lines
  pub is_line : line ≡ line_at lines place
  pub before : (i : ℕ) → i < place → HasStart p (line_at lines i)
  pub none : HasStart p line → ⊥

-- the text has a program with a graph within the limits, and so it is of a line
abbrev pub LacksStart : Bytes → Asked → ℕ → Type 0
LacksStart text asked line = (p : Program) × HasGraph text asked p × IsFirstWithout p (lines_in asked) line

-- the text has such a program, and more than 64 lines were asked for
abbrev pub AsksTooMany : Bytes → Asked → Type 0
AsksTooMany text asked = (p : Program) × HasGraph text asked p × (64 < length (lines_in asked))

-- the text has such a program, and on each of the lines, which are at most 64, starts a statement of it
pub record HasStarts (text : Bytes) (asked : Asked) (p : Program) : Type 0 where
  pub built : HasGraph text asked p
  pub few : length (lines_in asked) ≤ 64
  pub starts : StartOn p (lines_in asked)

-- so it is of some program; a run of it on this input ends, where one is asked for
pub record StartsSome (text : Bytes) (asked : Asked) (input : Bytes) : Type 0 where
  pub program : Program
  pub built : HasGraph text asked program
  pub few : length (lines_in asked) ≤ 64
  pub starts : StartOn program (lines_in asked)
  pub ends : RunEnds asked program input

-- the text has no such program, or on one of the lines starts no statement of it
abbrev pub StartsNone : Bytes → Asked → Type 0
StartsNone text asked = (p : Program) → HasGraph text asked p → StartOn p (lines_in asked) → ⊥

-- ---- slices

-- what is written is the slice of a program at a line, on which a statement starts; it is a text again, and gives the same values
pub record IsSliceAt (p : Program) (line : ℕ) (written : Bytes) : Type 0 where
  pub starts : HasStart p line
  pub slice : IsSlice p line written
  pub faithful : IsFaithful p line written

-- it is the slice of the text's program
pub record IsSliceOf (text : Bytes) (line : ℕ) (written : Bytes) : Type 0 where
  pub program : Program
  pub reads : ReadsProgram text program
  pub is : IsSliceAt program line written

abbrev pub text_at : List Bytes → ℕ → Bytes
text_at texts i = slice_index_or texts i []

-- the texts are the slices of the program at the lines, in their order
pub record AreSlices (p : Program) (lines : List ℕ) (texts : List Bytes) : Type 0 where
  pub as_many : length texts ≡ length lines
  pub each : (i : ℕ) → i < length lines → IsSliceAt p (line_at lines i) (text_at texts i)

-- a text has at most one slice at a line
abbrev pub SlicesAreOne : Type 0
SlicesAreOne = (text : Bytes) (line : ℕ) (t u : Bytes) → IsSliceOf text line t → IsSliceOf text line u → t ≡ u

-- ---- what is written

-- there is one text, and it is so
abbrev pub IsOneText : (Bytes → Type 0) → List Bytes → Type 0
IsOneText P [] = ⊥
IsOneText P (t ∷ []) = P t
IsOneText P (t ∷ u ∷ us) = ⊥

-- the texts are what is asked of the program: its slices at the lines, the values at the lines in a run on this input, what the run writes, its graph, what reaches the line in its graph, the numbers of its slice at its last line, what the line reaches in its graph, or through what there the first line reaches the second
abbrev pub AreTextsFor : Program → Asked → Bytes → List Bytes → Type 0
AreTextsFor p (Asked.slice file lines workers) input texts = AreSlices p lines texts
AreTextsFor p (Asked.trace file lines name steps) input texts = IsOneText (EndsWith (trace_words p lines) (meaning steps p input)) texts
AreTextsFor p (Asked.run file name steps) input texts = IsOneText (EndsWith (λ (t : Trace). t.output) (meaning steps p input)) texts
AreTextsFor p (Asked.graph file workers) input texts = IsOneText (IsGraphText p) texts
AreTextsFor p (Asked.members file line workers) input texts = IsOneText (IsMembersText p line) texts
AreTextsFor p (Asked.big seed size workers) input texts = IsOneText (IsNumbersText p) texts
AreTextsFor p (Asked.forward file line workers) input texts = IsOneText (IsForwardText p line) texts
AreTextsFor p (Asked.chop file from to workers) input texts = IsOneText (IsChopText p from to) texts

-- the texts are what is asked of the text's program; the lines are at most 64, and on each of them starts a statement
pub record AreWritten (text : Bytes) (asked : Asked) (input : Bytes) (texts : List Bytes) : Type 0 where
  pub program : Program
  pub built : HasGraph text asked program
  pub few : length (lines_in asked) ≤ 64
  pub starts : StartOn program (lines_in asked)
  pub are : AreTextsFor program asked input texts

-- so it is of each text with this program
abbrev pub AreWrittenOf : Program → Asked → Bytes → List Bytes → Type 0
AreWrittenOf p asked input texts = (text : Bytes) → ReadsProgram text p → AreWritten text asked input texts

-- texts one behind the other
abbrev pub joined : List Bytes → Bytes
joined [] = []
joined (t ∷ ts) = t ++ joined ts

-- what is asked for was written behind what was there, whole, and nothing else
abbrev pub WritesAsked : Bytes → Asked → Bytes → Option Bytes → Option Bytes → Type 0
WritesAsked text asked input before after = (texts : List Bytes) × AreWritten text asked input texts × Gains before after (joined texts)

-- the texts before one of them were written, and a front of that one
pub record GainsUpTo (before after : Option Bytes) (texts : List Bytes) : Type 0 where
  pub place : ℕ
  pub within : place < length texts
  pub count : ℕ
  pub front : Gains before after (joined (take place texts) ++ take count (text_at texts place))

-- so it is of what is asked for
abbrev pub WritesFront : Bytes → Asked → Bytes → Option Bytes → Option Bytes → Type 0
WritesFront text asked input before after = (texts : List Bytes) × AreWritten text asked input texts × GainsUpTo before after texts

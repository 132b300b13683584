-- What is written for lines of a text's program, and why nothing is.
use Rattle.std.specs.Prelude.{◌≡◌, ◌⊎◌, ℕ, ◌<◌, ◌≤◌, List, [], length, Option}
use Rattle.edge_io.specs.Contents.{Told}
use Rattle.c_tree.specs.declared.limits.LimitName.{LimitName}
use Rattle.c_tree.specs.declared.program.Program.{Program}
use Rattle.c_language.specs.Words.{Bytes}
use Rattle.c_reader.specs.Reading.{ReadsProgram}
use Rattle.c_reader.specs.Refusals.{IsLexFault, HasParseFault, HasRuleFault}
use Rattle.kept_lines.specs.Lines.{IsLinesText}
use Rattle.slice_engine.specs.GraphLimits.{IsAboveGraphLimit}
use Rattle.slice_engine.specs.Slice.{HasStart}
use Rattle.slicer_top.specs.Files.{OfGiven}
use Rattle.slicer_top.specs.Reports.{IsTextFault}
use Rattle.slicer_top.specs.Slices.{StartOn, line_at}
use Rattle.slicer_top.specs.declared.refusal.Refusal.{Refusal}
use Rattle.slicer_top.specs.declared.refusal.Refusal.TheVariants.{Unreadable, TooLong, NoInput, LongInput, Lex, Parse, Check, NoStart, Graph, TooMany, UndefinedAct, MoreSteps, NoMemory}

-- ---- what is written

-- the text is accepted and within the limits, this is its program, and its graph is within the limits
pub record HasGraph (text : Bytes) (p : Program) : Type 0 where
  pub reads : ReadsProgram text p
  pub within : (name : LimitName) → IsAboveGraphLimit p name → ⊥

-- the lines are at most 4,096, and on each of them starts a statement of the program
pub record CanBeAsked (p : Program) (lines : List ℕ) : Type 0 where
  pub few : length lines ≤ 4096
  pub starts : StartOn p lines

-- what is written has a row for each of the lines, with the lines that the slice of the text's program keeps there
pub record IsWritten (text : Bytes) (lines : List ℕ) (written : Bytes) : Type 0 where
  pub program : Program
  pub built : HasGraph text program
  pub asked : CanBeAsked program lines
  pub is : IsLinesText program lines written

-- ---- why nothing is written

-- this is the first of at most 4,096 lines on which no statement starts
pub record IsFirstWithout (p : Program) (lines : List ℕ) (line : ℕ) : Type 0 where
  pub few : length lines ≤ 4096
  pub place : ℕ
  pub within : place < length lines
  pub is_line : line ≡ line_at lines place
  pub before : (i : ℕ) → i < place → HasStart p (line_at lines i)
  pub none : HasStart p line → ⊥

-- why nothing is written for the lines of a program
abbrev pub IsLinesFault : Program → List ℕ → Refusal → Type 0
IsLinesFault p lines (NoStart line) = IsFirstWithout p lines line
IsLinesFault p lines TooMany = 4096 < length lines
IsLinesFault p lines NoMemory = Unit {0}
IsLinesFault p lines Unreadable = ⊥
IsLinesFault p lines TooLong = ⊥
IsLinesFault p lines NoInput = ⊥
IsLinesFault p lines LongInput = ⊥
IsLinesFault p lines (Lex fault) = ⊥
IsLinesFault p lines (Parse fault) = ⊥
IsLinesFault p lines (Check fault) = ⊥
IsLinesFault p lines (Graph name) = ⊥
IsLinesFault p lines (UndefinedAct at statement) = ⊥
IsLinesFault p lines MoreSteps = ⊥

-- the text shows the refusal, where these lines are asked for
abbrev pub IsReason : Bytes → List ℕ → Refusal → Type 0
IsReason text lines (Lex fault) = IsLexFault text fault
IsReason text lines (Parse fault) = HasParseFault text fault
IsReason text lines (Check fault) = HasRuleFault text fault
IsReason text lines (Graph name) = (p : Program) × ReadsProgram text p × IsAboveGraphLimit p name
IsReason text lines TooMany = (p : Program) × HasGraph text p × IsLinesFault p lines TooMany
IsReason text lines (NoStart line) = (p : Program) × HasGraph text p × IsLinesFault p lines (NoStart line)
IsReason text lines NoMemory = Unit {0}
IsReason text lines Unreadable = ⊥
IsReason text lines TooLong = ⊥
IsReason text lines NoInput = ⊥
IsReason text lines LongInput = ⊥
IsReason text lines (UndefinedAct at statement) = ⊥
IsReason text lines MoreSteps = ⊥

-- ---- of a file

-- the file has at most 1,048,576 bytes, of which this holds
abbrev pub OfFile : Told → Option Bytes → (Bytes → Type 0) → Type 0
OfFile told name P = OfGiven told [] name (λ text. (length text ≤ 1048576) × P text)

-- the cause of a refusal: the shelf had these counts of faults and of long files, or the file's text shows it
abbrev pub IsCause : Told → ℕ → ℕ → ℕ → ℕ → Option Bytes → List ℕ → Refusal → Type 0
IsCause told faults faults' long_files long_files' name lines refusal =
    IsTextFault told faults faults' long_files long_files' name refusal ⊎ OfFile told name (λ text. IsReason text lines refusal)

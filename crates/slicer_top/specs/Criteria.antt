-- The criteria of lines, and why lines have none.
use Rattle.std.specs.Prelude.{◌≡◌, ℕ, ◌<◌, ◌≤◌, List, length, slice_index_or}
use Rattle.c_tree.specs.declared.program.Program.{Program}
use Rattle.slice_engine.specs.declared.engine.Criterion.{Criterion}
use Rattle.slicer_top.specs.Slices.{IsFirstWithout, StartOn, line_at}
use Rattle.slicer_top.specs.declared.refusal.Refusal.{Refusal}
use Rattle.slicer_top.specs.declared.refusal.Refusal.TheVariants.{Unreadable, TooLong, NoInput, LongInput, Lex, Parse, Check, NoStart, Graph, TooMany, UndefinedAct, MoreSteps, NoMemory}

-- these are the criteria of the lines, in their order, on each of which a statement starts; they are at most 64
pub record AreCriteria (p : Program) (lines : List ℕ) (found : List Criterion) : Type 0 where
  pub few : length lines ≤ 64
  pub as_many : length found ≡ length lines
  pub each : (i : ℕ) (c : Criterion) → i < length lines → (slice_index_or found i c).line ≡ line_at lines i
  pub starts : StartOn p lines

-- on each of the lines, at most 64, starts a statement
pub record StartAt (p : Program) (lines : List ℕ) : Type 0 where
  pub few : length lines ≤ 64
  pub starts : StartOn p lines

-- these are the lines, and so it is of them
pub record AreFound (p : Program) (lines found : List ℕ) : Type 0 where
  pub same : found ≡ lines
  pub start : StartAt p lines

-- why the lines have no criteria
abbrev pub IsCriteriaFault : Program → List ℕ → Refusal → Type 0
IsCriteriaFault p lines (NoStart line) = IsFirstWithout p lines line
IsCriteriaFault p lines TooMany = 64 < length lines
IsCriteriaFault p lines NoMemory = Unit {0}
IsCriteriaFault p lines Unreadable = ⊥
IsCriteriaFault p lines TooLong = ⊥
IsCriteriaFault p lines (Lex fault) = ⊥
IsCriteriaFault p lines (Parse fault) = ⊥
IsCriteriaFault p lines (Check fault) = ⊥
IsCriteriaFault p lines (Graph name) = ⊥
IsCriteriaFault p lines NoInput = ⊥
IsCriteriaFault p lines LongInput = ⊥
IsCriteriaFault p lines (UndefinedAct at statement) = ⊥
IsCriteriaFault p lines MoreSteps = ⊥

-- The texts of a list of criteria.
use Rattle.std.specs.Prelude.{◌≡◌, ℕ, ◌<◌, List, [], length, slice_index_or}
use Rattle.c_tree.specs.declared.program.Program.{Program}
use Rattle.slice_engine.specs.Slice.{IsSlice, IsFaithful}
use Rattle.slice_engine.specs.declared.engine.Criterion.{Criterion}

abbrev pub Bytes : Type 0
Bytes = List ℕ

-- a text is the slice of a program at a criterion; it is a text again, and gives the same values
pub record IsTextOf (p : Program) (c : Criterion) (text : Bytes) : Type 0 where
  pub slice : IsSlice p c.line text
  pub faithful : IsFaithful p c.line text

-- there is one text for each criterion, in the order of the list
pub record AreTexts (p : Program) (list : List Criterion) (texts : List Bytes) : Type 0 where
  pub as_many : length texts ≡ length list
  pub each : (i : ℕ) (c : Criterion) → i < length list → IsTextOf p (slice_index_or list i c) (slice_index_or texts i [])

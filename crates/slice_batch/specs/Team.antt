-- Workers that make the texts of a list of criteria: what their seats drew, and what they made.
use Rattle.std.specs.Prelude.{◌≡◌, ℕ, ◌+◌, ◌<◌, true, List, [], map, length, All, slice_index_or, IfOk}
use Rattle.atomic_table.specs.Seated.{TableId}
use Rattle.c_tree.specs.declared.program.Program.{Program}
use Rattle.crew.specs.declared.board.BoardSeat.{BoardSeat}
use Rattle.crew.specs.declared.truth.Numbers.{Numbers}
use Rattle.crew.specs.Counts.{total, Has}
use Rattle.crew.specs.Seats.{view, board_of}
use Rattle.slice_engine.specs.declared.engine.Criterion.{Criterion}
use Rattle.slice_batch.specs.declared.worker.Made.{Made}
use Rattle.slice_batch.specs.declared.worker.Worked.{Worked}
use Rattle.slice_batch.specs.Batch.{Bytes, IsTextOf}

-- the text at a place is that of the criterion there, whatever stands past the end of the list
abbrev pub IsTextAt : Program → List Criterion → ℕ → Bytes → Type 0
IsTextAt p list k text = (c : Criterion) → IsTextOf p (slice_index_or list k c) text

-- it is the text of the criterion with its number
pub record IsMade (p : Program) (list : List Criterion) (m : Made) : Type 0 where
  pub inside : m.number < length list
  pub text : IsTextAt p list m.number m.text

abbrev pub numbers : List Made → List ℕ
numbers made = map (λ (m : Made). m.number) made

-- a seat of a board from which so many numbers are drawn
pub record IsSeatOf (board : TableId) (count : ℕ) (s : BoardSeat Numbers) : Type 0 where
  pub of_board : board_of s ≡ board
  pub end_is : (view s).end ≡ count

-- one that drew none yet
pub record IsFresh (board : TableId) (count : ℕ) (s : BoardSeat Numbers) : Type 0 where
  pub is_seat : IsSeatOf board count s
  pub none : (view s).drawn ≡ []

-- its worker found no number left, and made the texts of exactly the numbers that it drew, in order
pub record HasMade (p : Program) (list : List Criterion) (s : BoardSeat Numbers) (made : List Made) : Type 0 where
  pub done : (view s).done ≡ true
  pub numbers_are : (view s).drawn ≡ numbers made
  pub each : All (IsMade p list) made

-- what a worker hands back: its seat, and all that it made, where memory sufficed
pub record IsWorked (p : Program) (list : List Criterion) (board : TableId) (w : Worked) : Type 0 where
  pub is_seat : IsSeatOf board (length list) w.seat
  pub made : IfOk w.made (λ v. HasMade p list w.seat v.items)

-- the parts of the right to close the board: a seat has one, and those that it may split off
abbrev pub part : BoardSeat Numbers → ℕ
part s = (view s).spare + 1

abbrev pub parts : List (BoardSeat Numbers) → ℕ
parts = total part

abbrev pub worked_parts : List Worked → ℕ
worked_parts = total (λ (w : Worked). part w.seat)

-- each text whose number is among these stands at its place
abbrev pub ArePlaced : Program → List Criterion → List ℕ → List Bytes → Type 0
ArePlaced p list ks texts = (k : ℕ) → Has ks k → IsTextAt p list k (slice_index_or texts k [])

-- a seat that stands for all seats of its board, and found no number left
pub record HasDone (board : TableId) (count : ℕ) (s : BoardSeat Numbers) : Type 0 where
  pub is_seat : IsSeatOf board count s
  pub done : (view s).done ≡ true
  pub spare : (view s).spare ≡ 15

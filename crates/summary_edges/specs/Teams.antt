-- A team on one board of facts: its seats, and what its workers hand back.
use Rattle.std.specs.Prelude.{◌≡◌, ℕ, ◌+◌, Bool, true, List, [], slice_index}
use Rattle.atomic_table.specs.Seated.{TableId}
use Rattle.crew.specs.declared.board.BoardSeat.{BoardSeat}
use Rattle.crew.specs.Counts.{total, Has}
use Rattle.crew.specs.Seats.{view, board_of}
use Rattle.summary_edges.specs.declared.fact_truth.FactTruth.{FactTruth}
use Rattle.summary_edges.specs.Workers.{HasDone, HasKept, IsOpened, IsReadyTruth, KnowsStep}

abbrev pub Seat : Type 0
Seat = BoardSeat FactTruth

-- a seat, and whether its worker found memory
abbrev pub SeatBack : Type 0
SeatBack = Seat × Bool

-- a seat of the board of another one, which was opened with the same truth, words and end
pub record IsLike (first s : Seat) : Type 0 where
  pub board : board_of s ≡ board_of first
  pub truth_is : (view s).truth ≡ (view first).truth
  pub opening_is : (view s).opening ≡ (view first).opening
  pub end_is : (view s).end ≡ (view first).end

-- one that has drawn nothing
pub record IsFresh (first s : Seat) : Type 0 where
  pub like : IsLike first s
  pub none : (view s).drawn ≡ []

-- ---- what one worker does

-- the work of a round can be done with the seat
pub record IsTakenUp (t : FactTruth) (board : TableId) (s : Seat) : Type 0 where
  pub ready : IsReadyTruth t
  pub of_board : board_of s ≡ board
  pub opened : IsOpened t (view s)

-- the seat that comes back keeps what it had, and where memory sufficed no number is left, and it knows what steps of the functions
-- give that it drew meanwhile
pub record HasWorked (t : FactTruth) (before after : Seat) (finished : Bool) : Type 0 where
  pub board : board_of after ≡ board_of before
  pub kept : HasKept (view before) (view after)
  pub done : finished ≡ true → (view after).done ≡ true
  pub knows : finished ≡ true → HasDone t (view before) (view after)

-- ---- what a team hands back

-- no number is left, and the seat knows what a step of each function gives that it drew
pub record HasFinished (t : FactTruth) (first s : Seat) : Type 0 where
  pub like : IsLike first s
  pub done : (view s).done ≡ true
  pub knows : (k : ℕ) → Has (view s).drawn k → KnowsStep t.graph.now (slice_index t.agenda.now k) (view s)

pub record IsHandedBack (t : FactTruth) (first : Seat) (w : SeatBack) : Type 0 where
  pub like : IsLike first w.0
  pub finished : w.1 ≡ true → HasFinished t first w.0

abbrev pub IsOnBoard : TableId → SeatBack → Type 0
IsOnBoard board w = board_of w.0 ≡ board

-- the parts of the right to close the board: a seat has one, and those that it may split off
abbrev pub part : Seat → ℕ
part s = (view s).spare + 1

abbrev pub parts : List Seat → ℕ
parts = total part

abbrev pub parts_back : List SeatBack → ℕ
parts_back = total (λ (w : SeatBack). part w.0)

-- The laws of the board that need no step of a function, at any truth.
use Rattle.std.specs.Prelude.{◌≡◌, ℕ, ◌<◌, ◌≤◌, min, true, List, [], ◌++◌, map, slice_index, get_or}
use mathlib.Core.Option.{some}
use lib.ListN.{get_elem?}
use Rattle.atomic_table.specs.Table.{State}
use Rattle.crew.specs.declared.view.View.{View}
use Rattle.crew.specs.Counts.{Has, times}
use Rattle.crew.specs.SharedWords.{Holds, AreWithin}
use Rattle.crew.specs.Machine.{Moment, Event, Worker, Putting, AreLawful, IsReached, after_all, opening}
use Rattle.crew.specs.Shows.{moment_of}
use Rattle.crew.specs.Rule.{IsBoard}

-- the numbers below n were drawn, each by exactly one of these and once, and no others
pub record AreSharedOut (n : ℕ) (drawn : List (List ℕ)) : Type 0 where
  pub below : (i x : ℕ) → Has (get_or drawn i []) x → x < n
  pub all : (x : ℕ) → x < n → (i : ℕ) × Has (get_or drawn i []) x
  pub once : (i x : ℕ) → times x (get_or drawn i []) ≤ 1
  pub by_one : (i j x : ℕ) → Has (get_or drawn i []) x → Has (get_or drawn j []) x → i ≡ j

-- what holds at each moment of the machine
pub record IsSafe (True? : ℕ → Type 0) (start : List ℕ) (end_ : ℕ) (m : Moment) : Type 0 where
  pub has_opening : AreWithin start m.facts
  pub only_true : (n : ℕ) → Holds m.facts n → True? n
  pub drawn : AreSharedOut (min m.draws end_) (map (λ (x : Worker). x.drawn) m.workers)

-- what a board shows of the numbers: those below the draw word and the end were shared out, and who is done found no number left
pub record SharesOut {T : Type 0} (end_ : ℕ) (s : State (Unit {0}) (View T)) : Type 0 where
  pub drawn : AreSharedOut (min (slice_index s.words 0) end_) (map (λ (v : View T). v.drawn) s.views)
  pub done : (id : ℕ) (v : View T) → get_elem? s.views id ≡ some v → v.done ≡ true → end_ ≤ slice_index s.words 0

module _ {T : Type 0} (True? : T → ℕ → Type 0) (May : T → Putting) where
  -- in each state that the rule allows, some lawful list of events leads to the moment that the board shows
  abbrev pub BoardsShowMoments : Type 0
  BoardsShowMoments = (t : T) (start : List ℕ) (end_ : ℕ) (s : State (Unit {0}) (View T)) → IsBoard True? May t start end_ s → IsReached (May t) end_ start (moment_of s)

  -- there the numbers below the draw word and the end were drawn, each by one seat
  abbrev pub BoardsShareOut : Type 0
  BoardsShareOut = (t : T) (start : List ℕ) (end_ : ℕ) (s : State (Unit {0}) (View T)) → IsBoard True? May t start end_ s → SharesOut end_ s

  -- after each lawful list of events from true opening words
  abbrev pub EventsKeepTruth : Type 0
  EventsKeepTruth = (t : T) (start : List ℕ) (end_ : ℕ) (es : List Event) → ((n : ℕ) → Holds start n → True? t n)
      → AreLawful (May t) end_ (opening start) es → IsSafe (True? t) start end_ (after_all end_ (opening start) es)

-- the words after a longer list of events hold those after its front
abbrev pub WordsNeverShrink : Type 0
WordsNeverShrink = (start : List ℕ) (end_ : ℕ) (front back : List Event)
    → AreWithin (after_all end_ (opening start) front).facts (after_all end_ (opening start) (front ++ back)).facts

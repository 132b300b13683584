-- The moment of the machine that a board shows.
use Rattle.std.specs.Prelude.{◌≡◌, ℕ, true, List, drop, map, slice_index}
use Rattle.atomic_table.specs.Table.{State}
use Rattle.crew.specs.declared.view.View.{View}
use Rattle.crew.specs.Machine.{Worker, Moment, Putting, IsReached, worker}

module _ {T : Type 0} where
  abbrev pub worker_of : View T → Worker
  worker_of v = record { live = v.live; drawn = v.drawn; known = v.seen }

  abbrev pub shown : ℕ → List ℕ → List (View T) → Moment
  shown draws facts views = record { facts = facts; draws = draws; workers = map worker_of views }

-- word 0 is the draw word, the others are the fact words, and each view is a worker
abbrev pub moment_of : {S T : Type 0} → State S (View T) → Moment
moment_of s = shown (slice_index s.words 0) (drop 1 s.words) s.views

-- some lawful list of events leads from the opening to these words, and to this worker at some place
pub record IsHistory (May : Putting) (end_ : ℕ) (start words : List ℕ) (x : Worker) : Type 0 where
  pub moment : Moment
  pub reached : IsReached May end_ start moment
  pub words_are : moment.facts ≡ words
  pub place : ℕ
  pub worker_is : worker moment place ≡ x

-- The board as a machine of one thread: workers on shared words, and a list of events that takes a moment to a moment.
use Rattle.std.specs.Prelude.{◌≡◌, ℕ, ◌+◌, ◌*◌, ◌^◌, ◌<◌, Bool, true, false, List, [], ◌∷◌, ◌++◌, length, slice_index, slice_index_or, slice_set, bit_or}
use Rattle.std.specs.Int.{bit_at}
use lib.Dec.{ltb}
use Rattle.crew.specs.SharedWords.{union}

-- what a worker drew and knows; it is none any more where it isn't live
pub record Worker : Type 0 where
  pub live : Bool
  pub drawn : List ℕ
  pub known : List ℕ

-- the facts, the next number to draw, and the workers, each by its place
pub record Moment : Type 0 where
  pub facts : List ℕ
  pub draws : ℕ
  pub workers : List Worker

-- of the first worker named: it draws; it looks at a word; it puts bits into a word; one is split off it; another is joined to it
pub data Event : Type 0 where
  draws : ℕ → Event
  looks : ℕ → ℕ → Event
  puts : ℕ → ℕ → ℕ → Event
  splits : ℕ → Event
  joins : ℕ → ℕ → Event

abbrev pub nobody : Worker
nobody = record { live = false; drawn = []; known = [] }

abbrev pub worker : Moment → ℕ → Worker
worker m w = slice_index_or m.workers w nobody

-- the flag tells whether the number is below the end
abbrev pub drew : Bool → ℕ → Worker → Worker
drew true d x = record x { drawn = x.drawn ++ d ∷ [] }
drew false d x = x

abbrev pub looked : List ℕ → ℕ → Worker → Worker
looked facts i x = record x { known = slice_set x.known i (slice_index facts i) }

abbrev pub put : ℕ → ℕ → Worker → Worker
put i bits x = record x { known = slice_set x.known i (bit_or (slice_index x.known i) bits) }

abbrev pub told : Worker → Worker
told x = record { live = x.live; drawn = []; known = x.known }

abbrev pub both : Worker → Worker → Worker
both x y = record { live = x.live; drawn = x.drawn ++ y.drawn; known = union x.known y.known }

-- the moment after an event, where numbers below `end_` are drawn
abbrev pub after : ℕ → Moment → Event → Moment
after end_ m (draws w) = record { facts = m.facts; draws = m.draws + 1; workers = slice_set m.workers w (drew (ltb m.draws end_) m.draws (worker m w)) }
after end_ m (looks w i) = record { facts = m.facts; draws = m.draws; workers = slice_set m.workers w (looked m.facts i (worker m w)) }
after end_ m (puts w i bits) = record { facts = slice_set m.facts i (bit_or (slice_index m.facts i) bits); draws = m.draws; workers = slice_set m.workers w (put i bits (worker m w)) }
after end_ m (splits w) = record { facts = m.facts; draws = m.draws; workers = m.workers ++ told (worker m w) ∷ [] }
after end_ m (joins w v) = record { facts = m.facts; draws = m.draws; workers = slice_set (slice_set m.workers w (both (worker m w) (worker m v))) v nobody }

abbrev pub after_all : ℕ → Moment → List Event → Moment
after_all end_ m [] = m
after_all end_ m (e ∷ es) = after_all end_ (after end_ m e) es

abbrev pub IsWorker : Moment → ℕ → Type 0
IsWorker m w = (w < length m.workers) × ((worker m w).live ≡ true)

-- the facts that may be put by one who drew given numbers and knows given words
abbrev pub Putting : Type 1
Putting = List ℕ → List ℕ → ℕ → Type 0

-- a word takes the bits of facts that its worker may put
pub record MayPutBits (May : Putting) (m : Moment) (w i bits : ℕ) : Type 0 where
  pub worker_is : IsWorker m w
  pub inside : i < length m.facts
  pub fits : bits < 2 ^ 64
  pub may : (j : ℕ) → bit_at bits j ≡ 1 → May (worker m w).drawn (worker m w).known (64 * i + j)

-- a draw, a look and a split are always lawful, and a join is where two differ
module _ (May : Putting) where
  abbrev pub IsLawful : Moment → Event → Type 0
  IsLawful m (draws w) = IsWorker m w
  IsLawful m (looks w i) = IsWorker m w
  IsLawful m (puts w i bits) = MayPutBits May m w i bits
  IsLawful m (splits w) = IsWorker m w
  IsLawful m (joins w v) = IsWorker m w × IsWorker m v × ¬ (v ≡ w)

  abbrev pub AreLawful : ℕ → Moment → List Event → Type 0
  AreLawful end_ m [] = Unit {0}
  AreLawful end_ m (e ∷ es) = IsLawful m e × AreLawful end_ (after end_ m e) es

-- one worker, who knows the opening words
abbrev pub opening : List ℕ → Moment
opening start = record { facts = start; draws = 0; workers = record { live = true; drawn = []; known = start } ∷ [] }

-- some lawful list of events leads from the opening to the moment
pub record IsReached (May : Putting) (end_ : ℕ) (start : List ℕ) (m : Moment) : Type 0 where
  pub events : List Event
  pub lawful : AreLawful May end_ (opening start) events
  pub moment : after_all end_ (opening start) events ≡ m

-- Rounds: workers share out an agenda of functions by numbers, and put what one step of each function gives.
use Rattle.std.specs.Prelude.{◌≡◌, ◌≢◌, ℕ, ◌+◌, ◌<◌, ◌≤◌, ◌⊎◌, List, [], ◌∷◌, length, slice_index}
use Rattle.crew.specs.Counts.{Has}
use Rattle.crew.specs.SharedWords.{Holds}
use Rattle.crew.specs.Machine.{Moment, Event, Putting, AreLawful, after, after_all, opening, worker}

-- the facts that a step of a function gives, from known words; it says by itself which words it may fill
abbrev pub Step : Type 1
Step = ℕ → List ℕ → ℕ → Type 0

-- who drew the number of a function may put what its step gives from what he knows
abbrev pub MayPut : Step → List ℕ → Putting
MayPut Steps agenda drawn known n = (k : ℕ) × (k < length agenda) × Has drawn k × Steps (slice_index agenda k) known n

-- the function is on the agenda
abbrev pub IsOn : List ℕ → ℕ → Type 0
IsOn agenda f = (k : ℕ) × (k < length agenda) × (slice_index agenda k ≡ f)

-- a step of the function leaves the words as they are
abbrev pub IsSettled : Step → List ℕ → ℕ → Type 0
IsSettled Steps ws f = (n : ℕ) → Steps f ws n → Holds ws n

-- a round: the functions to be done, and what the workers did
pub record Round : Type 0 where
  pub agenda : List ℕ
  pub events : List Event

-- the moment at the end of a round that was opened with these words
abbrev pub last : List ℕ → Round → Moment
last start r = after_all (length r.agenda) (opening start) r.events

abbrev pub IsLawfulRound : Step → List ℕ → Round → Type 0
IsLawfulRound Steps start r = AreLawful (MayPut Steps r.agenda) (length r.agenda) (opening start) r.events

-- each function of the agenda was drawn, and who has its number knows at the end what its step gives from the opening words
abbrev pub IsWhole : Step → List ℕ → Round → Type 0
IsWhole Steps start r = (k : ℕ) → k < length r.agenda
    → (id : ℕ) × Has (worker (last start r) id).drawn k × ((n : ℕ) → Steps (slice_index r.agenda k) start n → Holds (worker (last start r) id).known n)

-- some put was new: the words grew by it
abbrev pub HasNewPut : ℕ → Moment → List Event → Type 0
HasNewPut end_ m [] = ⊥
HasNewPut end_ m (e ∷ es) = ((after end_ m e).facts ≢ m.facts) ⊎ HasNewPut end_ (after end_ m e) es

abbrev pub IsNewRound : List ℕ → Round → Type 0
IsNewRound start r = HasNewPut (length r.agenda) (opening start) r.events

-- rounds one after another, each opened with the words of the one before, and each but the last with a new put
abbrev pub IsSeries : Step → List ℕ → List Round → Type 0
IsSeries Steps start [] = Unit {0}
IsSeries Steps start (r ∷ []) = IsLawfulRound Steps start r
IsSeries Steps start (r ∷ q ∷ rs) = IsLawfulRound Steps start r × IsNewRound start r × IsSeries Steps (last start r).facts (q ∷ rs)

-- a step gives true facts alone from true ones
abbrev pub IsSoundStep : Step → (ℕ → Type 0) → Type 0
IsSoundStep Steps True? = (f : ℕ) (ws : List ℕ) → ((n : ℕ) → Holds ws n → True? n) → (n : ℕ) → Steps f ws n → True? n

-- words which every step leaves as they are hold all true facts
abbrev pub IsCompleteStep : Step → (ℕ → Type 0) → ℕ → Type 0
IsCompleteStep Steps True? count = (ws : List ℕ) → length ws ≡ count → ((f : ℕ) → IsSettled Steps ws f) → (n : ℕ) → True? n → Holds ws n

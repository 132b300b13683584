-- Laws of the facts on a board, for each shaped graph, each agenda, and whatever the threads do.
use Rattle.std.specs.Prelude.{◌↔◌, ℕ, ◌+◌, ◌*◌, ◌≤◌, List, ◌++◌, length}
use Rattle.atomic_table.specs.Table.{State}
use Rattle.crew.specs.declared.view.View.{View}
use Rattle.crew.specs.SharedWords.{Holds, AreWithin}
use Rattle.crew.specs.Machine.{Event, AreLawful, IsReached, after_all, opening}
use Rattle.crew.specs.Rounds.{MayPut, Round, IsOn, IsSettled, IsLawfulRound, IsWhole, IsNewRound, IsSeries, last}
use Rattle.crew.specs.Rule.{IsBoard}
use Rattle.crew.specs.Shows.{moment_of}
use Rattle.crew.specs.Laws.{IsSafe}
use Rattle.dep_model.specs.declared.graph.Graph.{Graph}
use Rattle.dep_model.specs.Facts.{AreTrueFacts}
use Rattle.dep_model.specs.Shapes.{IsShaped}
use Rattle.matched_paths.specs.Places.{bits_below}
use Rattle.summary_edges.specs.declared.fact_truth.FactTruth.{FactTruth}
use Rattle.summary_edges.specs.FactMachine.{IsTrueBit, IsStepBit, HoldTrueBits}

-- after each lawful list of events from true opening facts, the words hold the opening and true facts alone, and drawn are exactly
-- the numbers below both the draw word and the agenda's length, each by one worker
abbrev pub FactsStayTrue : Type 0
FactsStayTrue = (g : Graph) (agenda start : List ℕ) (es : List Event) → IsShaped g → HoldTrueBits g start
    → AreLawful (MayPut (IsStepBit g) agenda) (length agenda) (opening start) es
    → IsSafe (IsTrueBit g) start (length agenda) (after_all (length agenda) (opening start) es)

-- the words after a longer list of events hold those after its front
abbrev pub FactsNeverShrink : Type 0
FactsNeverShrink = (agenda start : List ℕ) (front back : List Event)
    → AreWithin (after_all (length agenda) (opening start) front).facts (after_all (length agenda) (opening start) (front ++ back)).facts

-- after a whole round without a new put, in which each function outside the agenda was settled, the words are exactly the true facts
abbrev pub WholeRoundsAreExact : Type 0
WholeRoundsAreExact = (g : Graph) (start : List ℕ) (r : Round) → IsShaped g → HoldTrueBits g start
    → IsLawfulRound (IsStepBit g) start r → IsWhole (IsStepBit g) start r → (IsNewRound start r → ⊥)
    → ((f : ℕ) → (IsOn r.agenda f → ⊥) → IsSettled (IsStepBit g) start f)
    → (n : ℕ) → Holds (last start r).facts n ↔ IsTrueBit g n

-- a series of rounds, each but the last with a new put, has at most one more than there are true facts: one for each bit that is set
-- where words hold exactly these
abbrev pub SeriesAreFew : Type 0
SeriesAreFew = (g : Graph) (start truth : List ℕ) (rounds : List Round) → IsShaped g → HoldTrueBits g start → AreTrueFacts g truth
    → IsSeries (IsStepBit g) start rounds → length rounds ≤ bits_below (64 * length truth) truth + 1

-- a board of such a truth, opened with the agenda's length as its end, shows at every moment a state of the machine: some lawful list
-- of events leads to its fact words, its draw word, and of each seat what it drew and knows
abbrev pub BoardsShowFacts : Type 0
BoardsShowFacts = (t : FactTruth) (start : List ℕ) (s : State (Unit {0}) (View FactTruth))
    → IsBoard (λ (u : FactTruth) n. IsTrueBit u.graph.now n) (λ (u : FactTruth). MayPut (IsStepBit u.graph.now) u.agenda.now) t start (length t.agenda.now) s
    → IsReached (MayPut (IsStepBit t.graph.now) t.agenda.now) (length t.agenda.now) start (moment_of s)

-- What one worker has seen, set and drawn, while it works on a board of facts.
use Rattle.std.specs.Prelude.{◌≡◌, ◌≢◌, ◌↔◌, ℕ, ◌+◌, ◌-◌, ◌<◌, ◌≤◌, ◌⊎◌, List, length, get_or, slice_index, Some, Contains}
use Rattle.crew.specs.declared.view.View.{View}
use Rattle.crew.specs.Counts.{Has}
use Rattle.crew.specs.SharedWords.{Holds, AreWithin, IsWithin, bit}
use Rattle.dep_model.specs.declared.edge.Edge.{Edge}
use Rattle.dep_model.specs.declared.edge.Label.TheVariants.{Out}
use Rattle.dep_model.specs.declared.graph.Graph.{Graph}
use Rattle.dep_model.specs.declared.graph.OutRow.{OutRow}
use Rattle.dep_model.specs.Facts.{IsIn, HoldsFact}
use Rattle.dep_model.specs.Graphs.{row_width}
use Rattle.dep_model.specs.Shapes.{IsShaped}
use Rattle.summary_edges.specs.declared.exit_rows.ExitRows.{ExitRows}
use Rattle.summary_edges.specs.declared.fact_truth.FactTruth.{FactTruth}
use Rattle.summary_edges.specs.declared.function_parts.FunctionPart.{FunctionPart}
use Rattle.summary_edges.specs.ExitRows.{IsFilled}
use Rattle.summary_edges.specs.FactIndexes.{IsIndex}
use Rattle.summary_edges.specs.FactMachine.{IsStepBit, HoldTrueBits}
use Rattle.summary_edges.specs.FunctionParts.{IsPart}

-- the graph of the truth is shaped, and what is lent to look up is its index
pub record IsReadyTruth (t : FactTruth) : Type 0 where
  pub shaped : IsShaped t.graph.now
  pub index : (x : _) → t.index ≡ Some x → IsIndex t.graph.now x.now

-- a seat of a board that was opened with a truth of the same graph and agenda, the fact words, and the agenda's length as its end
pub record IsOpened (t : FactTruth) (v : View FactTruth) : Type 0 where
  pub truth : FactTruth
  pub truth_is : v.truth ≡ Some truth
  pub graph_is : truth.graph.now ≡ t.graph.now
  pub agenda_is : truth.agenda.now ≡ t.agenda.now
  pub long : length v.opening ≡ t.graph.now.fact_words
  pub end_is : v.end ≡ length t.agenda.now

-- the seat is of the same board, with the same seats to spare, and keeps all that it had seen, newly set and drawn
pub record HasKept (old new : View FactTruth) : Type 0 where
  pub truth_is : new.truth ≡ old.truth
  pub opening_is : new.opening ≡ old.opening
  pub end_is : new.end ≡ old.end
  pub spare_is : new.spare ≡ old.spare
  pub seen : AreWithin old.seen new.seen
  pub set : AreWithin old.set new.set
  pub drawn : (k : ℕ) → Has old.drawn k → Has new.drawn k

-- the same, and it drew no number and is done where it was
pub record HasLearned (old new : View FactTruth) : Type 0 where
  pub kept : HasKept old new
  pub drawn_is : new.drawn ≡ old.drawn
  pub done_is : new.done ≡ old.done

-- what the seat has seen holds each fact that one step of a function gives from the opening facts
abbrev pub KnowsStep : Graph → ℕ → View FactTruth → Type 0
KnowsStep g f v = (n : ℕ) → IsStepBit g f v.opening n → Holds v.seen n

-- that of each number that it drew meanwhile
abbrev pub HasDone : FactTruth → View FactTruth → View FactTruth → Type 0
HasDone t old new = (k : ℕ) → Has new.drawn k → (Has old.drawn k → ⊥) → KnowsStep t.graph.now (slice_index t.agenda.now k) new

-- ---- the worker's own words

-- they hold true facts alone, and the seat has seen them
pub record IsCopy (g : Graph) (known : List ℕ) (v : View FactTruth) : Type 0 where
  pub long : length known ≡ g.fact_words
  pub only_true : HoldTrueBits g known
  pub seen : AreWithin known v.seen

-- word w of the second words has all bits that it has of the first
abbrev pub HasWord : List ℕ → List ℕ → ℕ → Type 0
HasWord start ws w = IsWithin (slice_index start w) (slice_index ws w)

-- some words were looked at: they have then at least what they had at the opening, and so have those that had it
pub record HasLooked (g : Graph) (looked : ℕ → Type 0) (before after : List ℕ) (old new : View FactTruth) : Type 0 where
  pub learned : HasLearned old new
  pub copy : IsCopy g before old → IsCopy g after new
  pub kept : (w : ℕ) → HasWord old.opening before w → HasWord old.opening after w
  pub has : (w : ℕ) → looked w → HasWord old.opening after w

-- a word of the row of a formal-out
pub record IsRowWord (g : Graph) (b w : ℕ) : Type 0 where
  pub row : OutRow
  pub is_row : Contains g.outs row
  pub of : row.vertex ≡ b
  pub function : ℕ
  pub own : IsIn g.vertices function b
  pub from : row.word ≤ w
  pub to : w < row.word + row_width g.vertices function

-- a word of the row of the formal-out from which an edge leaves a call
pub record IsReadAlong (g : Graph) (e : Edge) (w : ℕ) : Type 0 where
  pub call : ℕ
  pub leaves : e.label ≡ Out call
  pub word : IsRowWord g e.from w

-- that of some edge of a list
pub record IsReadAmong (g : Graph) (es : List Edge) (w : ℕ) : Type 0 where
  pub edge : Edge
  pub among : Contains es edge
  pub read : IsReadAlong g edge w

-- that of some edge to one of some vertices
pub record IsReadBefore (g : Graph) (first last w : ℕ) : Type 0 where
  pub edge : Edge
  pub among : Contains g.edges edge
  pub from : first ≤ edge.to
  pub to : edge.to < last
  pub read : IsReadAlong g edge w

-- ---- the functions of an agenda

-- the part is function f
pub record IsPartOf (g : Graph) (f : ℕ) (p : FunctionPart) : Type 0 where
  pub part : IsPart g p
  pub function_is : part.whole.function ≡ f

-- ---- a function that calls itself

-- of a function's own words, of which `own` is a copy, those bits are noted that the known words have gained
pub record HasNoted (p : FunctionPart) (own known old new : List ℕ) : Type 0 where
  pub long : length new ≡ length old
  pub gained : (w i : ℕ) → p.first_word ≤ w → w < p.last_word → i < 64 → (bit new w i ≡ 1) ↔ ((bit known w i ≡ 1) × (bit own (w - p.first_word) i ≢ 1))
  pub others : (w : ℕ) → w < p.first_word → get_or new w 0 ≡ get_or old w 0

-- the rows are filled by the facts of words from which the known ones differ among the function's own words alone, of which there is a copy
pub record IsBehind (g : Graph) (p : FunctionPart) (x : ExitRows) (own known : List ℕ) : Type 0 where
  pub before : List ℕ
  pub filled : IsFilled g (HoldsFact g before) p x
  pub copied : (k : ℕ) → p.first_word + k < p.last_word → get_or own k 0 ≡ get_or before (p.first_word + k) 0
  pub others : (w : ℕ) → (w < p.first_word) ⊎ (p.last_word ≤ w) → get_or known w 0 ≡ get_or before w 0
  pub kept : (a b : ℕ) → HoldsFact g before a b → HoldsFact g known a b

-- what a worker has while it goes on with a function: words that the seat has seen, rows that are behind, a copy of the function's own
-- words, and room for news of them
pub record IsGoingOn (g : Graph) (p : FunctionPart) (x : ExitRows) (own news known : List ℕ) (v : View FactTruth) : Type 0 where
  pub copy : IsCopy g known v
  pub behind : IsBehind g p x own known
  pub own_long : length own ≡ p.last_word - p.first_word
  pub news_long : length news ≡ p.last_word
  pub no_others : (w : ℕ) → w < p.first_word → get_or news w 0 ≡ 0

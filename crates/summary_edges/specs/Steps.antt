-- One step of one function: what it adds to the words of a graph's facts.
use Rattle.std.specs.Prelude.{◌≡◌, ◌↔◌, ℕ, ◌+◌, ◌-◌, ◌*◌, ◌<◌, ◌≤◌, ◌⊎◌, Bool, true, false, List, length, get_or}
use Rattle.bit_rows.specs.Tables.{Holds}
use Rattle.dep_model.specs.declared.graph.Graph.{Graph}
use Rattle.dep_model.specs.declared.vertex.Slot.{Slot}
use Rattle.dep_model.specs.declared.vertex.Vertex.{Vertex}
use Rattle.dep_model.specs.declared.vertex.VertexKind.TheVariants.{FormalIn}
use Rattle.dep_model.specs.Facts.{FactSet, HoldsFact, AreFactWords, IsStep}
use Rattle.dep_model.specs.SystemGraph.{IsVertex}
use Rattle.matched_paths.specs.Places.{bits_below}
use Rattle.matched_paths.specs.VertexRanges.{IsInRange}
use Rattle.summary_edges.specs.declared.exit_rows.ExitRows.{ExitRows}
use Rattle.summary_edges.specs.declared.function_parts.FunctionPart.{FunctionPart}
use Rattle.summary_edges.specs.ExitRows.{exit_at}
use Rattle.summary_edges.specs.FunctionParts.{IsPart}

-- more bits are set, where something is new, and else the words are the same
pub record HaveGrown (old new : List ℕ) (grows : Bool) : Type 0 where
  pub long : length new ≡ length old
  pub more : grows ≡ true → bits_below (64 * length old) old < bits_below (64 * length old) new
  pub same : grows ≡ false → new ≡ old

-- some facts are added, and no others; only words of a function's own rows change
pub record HasAdded (g : Graph) (p : FunctionPart) (added : FactSet) (old new : List ℕ) (grows : Bool) : Type 0 where
  pub grown : HaveGrown old new grows
  pub words : AreFactWords g old → AreFactWords g new
  pub exact : (a b : ℕ) → HoldsFact g new a b ↔ (HoldsFact g old a b ⊎ added a b)
  pub others : (w : ℕ) → (w < p.first_word) ⊎ (p.last_word ≤ w) → get_or new w 0 ≡ get_or old w 0

-- a vertex is a formal-in
pub record IsFormalInAt (vs : List Vertex) (a : ℕ) : Type 0 where
  pub function : ℕ
  pub slot : Slot
  pub at : IsVertex vs function (FormalIn slot) a

-- the rows of a function say that formal-out k, which is b, is reached from the formal-in a
pub record IsReadAt (g : Graph) (p : FunctionPart) (x : ExitRows) (v k a b : ℕ) : Type 0 where
  pub from : a ≡ v
  pub to : b ≡ exit_at g p k
  pub reached : Holds x.rows (v - p.range.first) k

-- they say so of a formal-out whose bit stands in word w of the row
pub record IsReadIn (g : Graph) (p : FunctionPart) (x : ExitRows) (v w a b : ℕ) : Type 0 where
  pub exit : ℕ
  pub from : 64 * w ≤ exit
  pub to : exit < 64 * w + 64
  pub few : exit < p.last_row - p.first_row
  pub read : IsReadAt g p x v exit a b

-- the rows of a function say that its formal-out b is reached from its formal-in a
pub record IsReadOff (g : Graph) (p : FunctionPart) (x : ExitRows) (a b : ℕ) : Type 0 where
  pub inside : IsInRange p.range a
  pub formal : IsFormalInAt g.vertices a
  pub exit : ℕ
  pub few : exit < p.last_row - p.first_row
  pub read : IsReadAt g p x a exit a b

-- exactly the facts are added that one step of the function gives by what is known
pub record IsStepTaken (g : Graph) (p : FunctionPart) (known old new : List ℕ) (grows : Bool) : Type 0 where
  pub part : IsPart g p
  pub added : HasAdded g p (IsStep g part.whole.function (HoldsFact g known)) old new grows

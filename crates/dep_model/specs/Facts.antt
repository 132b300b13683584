-- The facts of a graph: which formal-outs depend on which formal-ins of their functions, where calls and returns match; the words
-- that hold facts; and what facts of the functions called say of one function (summary edges, Horwitz, Reps and Binkley 1990).
use Rattle.std.specs.Prelude.{◌≡◌, ◌↔◌, ℕ, ◌≤◌, ◌<◌, ◌+◌, ◌*◌, ◌⊎◌, true, false, List, length, Some, Contains, slice_get}
use Rattle.bit_rows.specs.Words.{word_bit}
use Rattle.dep_model.specs.declared.edge.Edge.{Edge}
use Rattle.dep_model.specs.declared.edge.Label.TheVariants as label
use Rattle.dep_model.specs.declared.graph.Graph.{Graph}
use Rattle.dep_model.specs.declared.graph.OutRow.{OutRow}
use Rattle.dep_model.specs.declared.vertex.Slot.{Slot}
use Rattle.dep_model.specs.declared.vertex.Vertex.{Vertex}
use Rattle.dep_model.specs.declared.vertex.VertexKind.TheVariants.{FormalIn, FormalOut}
use Rattle.dep_model.specs.FunctionVertices.{is_formal_in, numbers}
use Rattle.dep_model.specs.Graphs.{edge, row_width}
use Rattle.dep_model.specs.SystemGraph.{IsVertex}
use Rattle.dep_model.specs.Words.{word, IsPath, Matched}

-- pairs of vertices
abbrev pub FactSet : Type 1
FactSet = ℕ → ℕ → Type 0

-- a is a formal-in and b a formal-out of the function
pub record AreFormals (vs : List Vertex) (f a b : ℕ) : Type 0 where
  pub slot_in : Slot
  pub slot_out : Slot
  pub goes_in : IsVertex vs f (FormalIn slot_in) a
  pub comes_out : IsVertex vs f (FormalOut slot_out) b

-- a path whose word is matched
pub record IsMatchedPath (edges : List Edge) (a b : ℕ) : Type 0 where
  pub path : List Edge
  pub joins : IsPath edges a path b
  pub matched : Matched (word path)

-- a fact is true: a formal-in and a formal-out of one function, joined by a matched path
pub record IsTrueFact (g : Graph) (a b : ℕ) : Type 0 where
  pub function : ℕ
  pub formals : AreFormals g.vertices function a b
  pub joined : IsMatchedPath g.edges a b

-- ---- words

-- a vertex of the function
pub record IsIn (vs : List Vertex) (f v : ℕ) : Type 0 where
  pub vertex : Vertex
  pub at : slice_get vs v ≡ Some vertex
  pub in_function : vertex.function ≡ f

-- the bit of a fact, counted from the first word of all: in the row of the formal-out b, that of a, formal-in number i of the function
pub record IsFactBit (g : Graph) (a b bit : ℕ) : Type 0 where
  pub function : ℕ
  pub number : ℕ
  pub first_word : ℕ
  pub goes_in : slice_get (numbers is_formal_in function g.vertices) number ≡ Some a
  pub row : Contains g.outs (record { vertex = b; word = first_word })
  pub comes_out : IsIn g.vertices function b
  pub bit_is : bit ≡ 64 * first_word + number

-- the words hold a fact: its bit is set
pub record HoldsFact (g : Graph) (ws : List ℕ) (a b : ℕ) : Type 0 where
  pub bit : ℕ
  pub is_bit : IsFactBit g a b bit
  pub set : word_bit ws bit ≡ true

-- the words of a graph's facts: as many as its rows take, and in the row of a function's formal-out no bit is set past its formal-ins
pub record AreFactWords (g : Graph) (ws : List ℕ) : Type 0 where
  pub long : length ws ≡ g.fact_words
  pub clean : (r : OutRow) (x : Vertex) (i : ℕ) → Contains g.outs r → slice_get g.vertices r.vertex ≡ Some x
      → length (numbers is_formal_in x.function g.vertices) ≤ i → i < 64 * row_width g.vertices x.function → word_bit ws (64 * r.word + i) ≡ false

-- exactly the true facts
pub record AreTrueFacts (g : Graph) (ws : List ℕ) : Type 0 where
  pub words : AreFactWords g ws
  pub exact : (a b : ℕ) → HoldsFact g ws a b ↔ IsTrueFact g a b

-- ---- one function

-- a summary edge: an actual-in and an actual-out of one call, whose formal-in and formal-out are a fact of K
pub record IsSummary (edges : List Edge) (K : FactSet) (a b : ℕ) : Type 0 where
  pub call : ℕ
  pub formal_in : ℕ
  pub formal_out : ℕ
  pub enters : Contains edges (edge a formal_in (label.In call))
  pub leaves : Contains edges (edge formal_out b (label.Out call))
  pub fact : K formal_in formal_out

-- an edge that stays in its function: a control, flow or summary edge
abbrev pub IsInnerEdge : List Edge → FactSet → ℕ → ℕ → Type 0
IsInnerEdge edges K a b =
    Contains edges (edge a b label.Control) ⊎ (Contains edges (edge a b label.Flow) ⊎ IsSummary edges K a b)

-- a chain of inner edges from a to b along vertices of the function
pub data IsInnerChain (g : Graph) (K : FactSet) (f : ℕ) : ℕ → ℕ → Type 0 where
  ends : {a : ℕ} → IsIn g.vertices f a → IsInnerChain g K f a a
  goes_on : {a b c : ℕ} → IsIn g.vertices f a → IsInnerEdge g.edges K a b → IsInnerChain g K f b c → IsInnerChain g K f a c

-- one step: what the facts of K say of a function
pub record IsStep (g : Graph) (f : ℕ) (K : FactSet) (a b : ℕ) : Type 0 where
  pub formals : AreFormals g.vertices f a b
  pub chain : IsInnerChain g K f a b

-- Graphs in which calls and functions fit each other, whatever program they are of.
use Rattle.std.specs.Prelude.{◌≡◌, ◌≢◌, ℕ, ◌≤◌, ◌⊎◌, List, length, Some, Contains, slice_get}
use Rattle.dep_model.specs.declared.edge.Edge.{Edge}
use Rattle.dep_model.specs.declared.edge.Label.TheVariants as label
use Rattle.dep_model.specs.declared.graph.Graph.{Graph}
use Rattle.dep_model.specs.declared.vertex.Slot.{Slot}
use Rattle.dep_model.specs.declared.vertex.Slot.TheVariants.{Result}
use Rattle.dep_model.specs.declared.vertex.Vertex.{Vertex}
use Rattle.dep_model.specs.declared.vertex.VertexKind.{VertexKind}
use Rattle.dep_model.specs.declared.vertex.VertexKind.TheVariants.{Entry, FormalIn, FormalOut, Call, ActualIn, ActualOut}
use Rattle.dep_model.specs.EdgeOrder.{AreAscendingEdges}
use Rattle.dep_model.specs.Graphs.{edge, HasRows}
use Rattle.dep_model.specs.SystemGraph.{IsVertex}

-- between two vertices of one function stands none of another
abbrev pub AreConsecutive : List Vertex → Type 0
AreConsecutive vs =
    (u v w : ℕ) (x y z : Vertex) → u ≤ v → v ≤ w
    → slice_get vs u ≡ Some x → slice_get vs v ≡ Some y → slice_get vs w ≡ Some z → x.function ≡ z.function → y.function ≡ x.function

-- c is the call vertex of statement i of function f, and has a call edge to the entry of function `to`
pub record IsCallOf (g : Graph) (f i to c : ℕ) : Type 0 where
  pub entry : ℕ
  pub at : IsVertex g.vertices f (Call i) c
  pub is_entry : IsVertex g.vertices to Entry entry
  pub calls : Contains g.edges (edge c entry (label.Call c))

-- an edge inside of a function, or one at a call: from its vertex to the entry of the function called, from an actual-in to the
-- formal-in of its slot, or from a formal-out to the actual-out of its slot
pub data IsFitting (g : Graph) (e : Edge) : Type 0 where
  inside : (f : ℕ) (a b : VertexKind)
      → (e.label ≡ label.Control) ⊎ (e.label ≡ label.Flow) → IsVertex g.vertices f a e.from → IsVertex g.vertices f b e.to → IsFitting g e
  call : (f i to : ℕ)
      → e.label ≡ label.Call e.from → IsVertex g.vertices f (Call i) e.from → IsVertex g.vertices to Entry e.to → IsFitting g e
  in_ : (f i to c : ℕ) (slot : Slot) → IsCallOf g f i to c
      → e.label ≡ label.In c → IsVertex g.vertices f (ActualIn i slot) e.from → IsVertex g.vertices to (FormalIn slot) e.to → IsFitting g e
  out : (f i to c : ℕ) (slot : Slot) → IsCallOf g f i to c
      → e.label ≡ label.Out c → IsVertex g.vertices to (FormalOut slot) e.from → IsVertex g.vertices f (ActualOut i slot) e.to → IsFitting g e

-- at call c, statement i of function f, the formal-in u has one actual-in of its slot
pub record HasActualIn (g : Graph) (f i c : ℕ) (slot : Slot) (u : ℕ) : Type 0 where
  pub actual : ℕ
  pub at : IsVertex g.vertices f (ActualIn i slot) actual
  pub enters : Contains g.edges (edge actual u (label.In c))
  pub one : (v : ℕ) → IsVertex g.vertices f (ActualIn i slot) v → v ≡ actual

-- at call c of function `to` the actual-out v has the formal-out of its slot
pub record HasFormalOut (g : Graph) (to c : ℕ) (slot : Slot) (v : ℕ) : Type 0 where
  pub formal : ℕ
  pub at : IsVertex g.vertices to (FormalOut slot) formal
  pub leaves : Contains g.edges (edge formal v (label.Out c))

-- a vertex is an actual of statement i of function f
pub data IsActual (vs : List Vertex) (f i v : ℕ) : Type 0 where
  goes_in : (slot : Slot) → IsVertex vs f (ActualIn i slot) v → IsActual vs f i v
  comes_out : (slot : Slot) → IsVertex vs f (ActualOut i slot) v → IsActual vs f i v

-- a graph is shaped
pub record IsShaped (g : Graph) : Type 0 where
  -- the vertices of a function are consecutive
  pub consecutive : AreConsecutive g.vertices
  -- control and flow edges stay in one function, and all others are at calls
  pub fitting : (e : Edge) → Contains g.edges e → IsFitting g e
  -- each call vertex has a call edge, and one alone
  pub callee : (f i c : ℕ) → IsVertex g.vertices f (Call i) c → (to : ℕ) × IsCallOf g f i to c
  pub one_callee : (c u v : ℕ) → Contains g.edges (edge c u (label.Call c)) → Contains g.edges (edge c v (label.Call c)) → u ≡ v
  -- at each call every formal-in of the function called has one actual-in of its slot, with an In edge of that call
  pub actual_ins : (f i to c : ℕ) (slot : Slot) (u : ℕ)
      → IsCallOf g f i to c → IsVertex g.vertices to (FormalIn slot) u → HasActualIn g f i c slot u
  -- at each call every actual-out has an Out edge of that call from the formal-out of its slot
  pub formal_outs : (f i to c : ℕ) (slot : Slot) (v : ℕ)
      → IsCallOf g f i to c → IsVertex g.vertices f (ActualOut i slot) v → HasFormalOut g to c slot v
  -- at each call every formal-out of the function called, but a result, has an actual-out
  pub actual_outs : (f i to c : ℕ) (slot : Slot) (u : ℕ)
      → IsCallOf g f i to c → IsVertex g.vertices to (FormalOut slot) u → slot ≢ Result → (v : ℕ) × IsVertex g.vertices f (ActualOut i slot) v
  -- each call vertex has a control edge to each of its actuals
  pub actuals : (f i c v : ℕ)
      → IsVertex g.vertices f (Call i) c → IsActual g.vertices f i v → Contains g.edges (edge c v label.Control)
  -- the edges ascend, and the rows are those of the vertices
  pub ascending : AreAscendingEdges g.edges
  pub rows_are : HasRows g
  -- there are few vertices and few fact words
  pub few_vertices : length g.vertices ≤ 65536
  pub few_words : g.fact_words ≤ 262144

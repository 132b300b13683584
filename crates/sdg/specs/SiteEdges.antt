-- The edges at one call: to the entry of the function called, into its formal-ins and out of its formal-outs.
use Rattle.std.specs.Prelude.{◌≡◌, ◌⊎◌, ◌↔◌, ℕ, List, Some, slice_get, Contains}
use Rattle.dep_model.specs.declared.edge.Edge.{Edge}
use Rattle.dep_model.specs.declared.edge.Label.TheVariants as label
use Rattle.dep_model.specs.declared.vertex.Slot.{Slot}
use Rattle.dep_model.specs.declared.vertex.Vertex.{Vertex}
use Rattle.dep_model.specs.declared.vertex.VertexKind.TheVariants.{Entry, FormalIn, FormalOut, Call, ActualIn, ActualOut}
use Rattle.dep_model.specs.Graphs.{edge}
use Rattle.dep_model.specs.SystemGraph.{IsVertex}
use Rattle.sdg.specs.declared.call_sites.CallSite.{CallSite}
use Rattle.sdg.specs.declared.vertex_lists.Grouping.TheVariants as grouping
use Rattle.sdg.specs.declared.places.Places.{Places}
use Rattle.sdg.specs.VertexLists.{AreVertexLists}

-- the vertices of a graph are listed in all ways
pub record ArePlaces (vs : List Vertex) (t : Places) : Type 0 where
  pub entries_are : AreVertexLists grouping.Entries vs t.entries
  pub formal_ins_are : AreVertexLists grouping.FormalIns vs t.formal_ins
  pub formal_outs_are : AreVertexLists grouping.FormalOuts vs t.formal_outs
  pub calls_are : AreVertexLists grouping.Calls vs t.calls

-- an edge from the actual-in u of the call c to one of some formal-ins, that of its slot
pub record Enters (vs : List Vertex) (formals : List ℕ) (slot : Slot) (u c : ℕ) (e : Edge) : Type 0 where
  pub formal : ℕ
  pub member : Contains formals formal
  pub vertex : Vertex
  pub at : slice_get vs formal ≡ Some vertex
  pub kind_is : vertex.kind ≡ FormalIn slot
  pub is : e ≡ edge u formal (label.In c)

-- an edge to the actual-out u of the call c from one of some formal-outs, that of its slot
pub record Leaves (vs : List Vertex) (formals : List ℕ) (slot : Slot) (u c : ℕ) (e : Edge) : Type 0 where
  pub formal : ℕ
  pub member : Contains formals formal
  pub vertex : Vertex
  pub at : slice_get vs formal ≡ Some vertex
  pub kind_is : vertex.kind ≡ FormalOut slot
  pub is : e ≡ edge formal u (label.Out c)

-- an edge from an actual-in of the call c, which is vertex number u, to the formal-in of its slot
pub record IsInEdge (vs : List Vertex) (x : CallSite) (c u : ℕ) (e : Edge) : Type 0 where
  pub slot : Slot
  pub formal : ℕ
  pub is : e ≡ edge u formal (label.In c)
  pub actual_is : IsVertex vs x.function (ActualIn x.statement slot) u
  pub formal_is : IsVertex vs x.callee (FormalIn slot) formal

-- an edge to an actual-out of the call c, which is vertex number u, from the formal-out of its slot
pub record IsOutEdge (vs : List Vertex) (x : CallSite) (c u : ℕ) (e : Edge) : Type 0 where
  pub slot : Slot
  pub formal : ℕ
  pub is : e ≡ edge formal u (label.Out c)
  pub actual_is : IsVertex vs x.function (ActualOut x.statement slot) u
  pub formal_is : IsVertex vs x.callee (FormalOut slot) formal

-- an edge of an actual of the call c
abbrev pub IsActualEdge : List Vertex → CallSite → ℕ → ℕ → Edge → Type 0
IsActualEdge vs x c u e = IsInEdge vs x c u e ⊎ IsOutEdge vs x c u e

-- an edge from the call c to the entry of the function called
pub record IsEntryEdge (vs : List Vertex) (x : CallSite) (c : ℕ) (e : Edge) : Type 0 where
  pub entry : ℕ
  pub is : e ≡ edge c entry (label.Call c)
  pub entry_is : IsVertex vs x.callee Entry entry

-- an edge at the call c
pub data IsEdgeAt (vs : List Vertex) (x : CallSite) (c : ℕ) (e : Edge) : Type 0 where
  to_entry : IsEntryEdge vs x c e → IsEdgeAt vs x c e
  at_actual : (u : ℕ) → IsActualEdge vs x c u e → IsEdgeAt vs x c e

-- an edge at a call
pub record IsSiteEdge (vs : List Vertex) (x : CallSite) (e : Edge) : Type 0 where
  pub vertex : ℕ
  pub is_call : IsVertex vs x.function (Call x.statement) vertex
  pub edge_is : IsEdgeAt vs x vertex e

-- some edges and the new ones that pass
abbrev pub Adds : List Edge → List Edge → (Edge → Type 0) → Type 0
Adds old new Is = (e : Edge) → Contains new e ↔ (Contains old e ⊎ Is e)

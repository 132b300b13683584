-- The edges of the system dependence graph of a program of any form (Horwitz, Reps and Binkley 1990).
use Rattle.std.specs.Prelude.{◌≡◌, ◌↔◌, ◌⊎◌, ℕ, List, false, Some, Contains, slice_get}
use Rattle.std.specs.Option.{option_map_or}
use Rattle.c_tree.specs.declared.expr.Expr.{Expr}
use Rattle.c_tree.specs.declared.program.Program.{Program}
use Rattle.c_tree.specs.declared.statement.Target.{Target}
use Rattle.dep_model.specs.declared.edge.Edge.{Edge}
use Rattle.dep_model.specs.declared.edge.Label.TheVariants as label
use Rattle.dep_model.specs.declared.location.Location.{Location}
use Rattle.dep_model.specs.declared.vertex.Slot.{Slot}
use Rattle.dep_model.specs.declared.vertex.Vertex.{Vertex}
use Rattle.dep_model.specs.declared.vertex.VertexKind.{VertexKind}
use Rattle.dep_model.specs.declared.vertex.VertexKind.TheVariants.{Entry, FormalIn, FormalOut, Call, ActualIn, ActualOut}
use Rattle.dep_model.specs.Follows.{EffectsOf, Flows}
use Rattle.dep_model.specs.FunctionVertices.{FollowsIn, IsControlIn}
use Rattle.dep_model.specs.Denoted.{Places, TargetsOf}
use Rattle.dep_model.specs.Doings.{Calls, doings_of}
use Rattle.dep_model.specs.MayPoint.{IsPointsTo}
use Rattle.dep_model.specs.ModRef.{FunctionEffects, AreFunctionEffects}
use Rattle.dep_model.specs.VertexOrder.{in_function, program_vertices, vertex_effects}

-- what dependence is found from: where each location may point, and what each function may modify and use
pub record Analysis : Type 0 where
  pub points : TargetsOf
  pub effects : FunctionEffects

-- that of a program
pub record IsAnalysis (p : Program) (a : Analysis) : Type 0 where
  pub points_are : IsPointsTo p a.points
  pub effects_are : AreFunctionEffects p a.points a.effects

-- the vertices of a program
abbrev pub vertices_of : Program → Analysis → List Vertex
vertices_of p a = program_vertices p a.effects

-- the locations of a vertex by its number
abbrev pub places_at : (Vertex → Places) → List Vertex → ℕ → Places
places_at places vs v l = option_map_or (λ (x : Vertex). places x l) (slice_get vs v) false

abbrev pub numbered_effects : Program → TargetsOf → List Vertex → EffectsOf ℕ Location
numbered_effects p points vs = record {
  defines = places_at (vertex_effects p points).defines vs;
  uses = places_at (vertex_effects p points).uses vs;
  kills = places_at (vertex_effects p points).kills vs;
}

-- a flow edge of a function
pub record IsFlowIn (p : Program) (points : TargetsOf) (vs : List Vertex) (f : ℕ) (e : Edge) : Type 0 where
  pub labelled : e.label ≡ label.Flow
  pub flows : Flows (λ (v w : ℕ). FollowsIn p vs f v (Some w)) (numbered_effects p points vs) e.from e.to

-- an edge of the graph of one function: a control or a flow edge
abbrev pub IsFunctionEdge : Program → Analysis → ℕ → Edge → Type 0
IsFunctionEdge p a f e = IsControlIn p (vertices_of p a) f e ⊎ IsFlowIn p a.points (vertices_of p a) f e

-- vertex number v is of this kind, in the function
abbrev pub IsVertex : List Vertex → ℕ → VertexKind → ℕ → Type 0
IsVertex vs f kind v = slice_get vs v ≡ Some (in_function f kind)

-- statement i of the function is a call of another, or of itself, and c is its call vertex
pub record IsCall (p : Program) (vs : List Vertex) (f i to c : ℕ) : Type 0 where
  pub target : Target
  pub args : List Expr
  pub member : Contains (doings_of p f) (Calls i target to args)
  pub at : IsVertex vs f (Call i) c

-- an edge between a call and the function called: to its entry, from an actual-in to the formal-in of its slot, or
-- from a formal-out to the actual-out of its slot
pub data IsCallEdge (p : Program) (vs : List Vertex) (e : Edge) : Type 0 where
  call : (f i to : ℕ) → IsCall p vs f i to e.from → e.label ≡ label.Call e.from → IsVertex vs to Entry e.to → IsCallEdge p vs e
  in_ : (f i to c : ℕ) (slot : Slot) → IsCall p vs f i to c → e.label ≡ label.In c → IsVertex vs f (ActualIn i slot) e.from → IsVertex vs to (FormalIn slot) e.to → IsCallEdge p vs e
  out : (f i to c : ℕ) (slot : Slot) → IsCall p vs f i to c → e.label ≡ label.Out c → IsVertex vs to (FormalOut slot) e.from → IsVertex vs f (ActualOut i slot) e.to → IsCallEdge p vs e

-- an edge of the system graph: a control or flow edge of a function, or one between functions
pub data IsSystemEdge (p : Program) (a : Analysis) (e : Edge) : Type 0 where
  control : (f : ℕ) → IsControlIn p (vertices_of p a) f e → IsSystemEdge p a e
  flow : (f : ℕ) → IsFlowIn p a.points (vertices_of p a) f e → IsSystemEdge p a e
  between : IsCallEdge p (vertices_of p a) e → IsSystemEdge p a e

-- a list of exactly these edges
abbrev pub AreSystemEdges : Program → Analysis → List Edge → Type 0
AreSystemEdges p a edges = (e : Edge) → Contains edges e ↔ IsSystemEdge p a e

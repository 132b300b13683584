-- Where control and flow edges are exactly those of a function, their union is its graph.
use Rattle.std.specs.Prelude.{◌↔◌, ◌⊎◌, ℕ, List, Contains}
use Rattle.c_tree.specs.declared.program.Program.{Program}
use Rattle.dep_model.specs.declared.edge.Edge.{Edge}
use Rattle.dep_model.specs.declared.graph.FunctionGraph.{FunctionGraph}
use Rattle.dep_model.specs.EdgeOrder.{AreAscendingEdges}
use Rattle.dep_model.specs.FunctionVertices.{IsControlIn}
use Rattle.dep_model.specs.Graphs.{IsFunctionGraph}
use Rattle.dep_model.specs.SystemGraph.{Analysis, vertices_of, IsFlowIn}

-- exactly the control edges of a function, by an analysis
abbrev pub AreControlEdges : Program → Analysis → ℕ → List Edge → Type 0
AreControlEdges p a f es = (e : Edge) → Contains es e ↔ IsControlIn p (vertices_of p a) f e

-- exactly the flow edges of a function, by an analysis
abbrev pub AreFlowEdges : Program → Analysis → ℕ → List Edge → Type 0
AreFlowEdges p a f es = (e : Edge) → Contains es e ↔ IsFlowIn p a.points (vertices_of p a) f e

-- the edges of a graph are those of two lists
abbrev pub IsUnion : List Edge → List Edge → FunctionGraph → Type 0
IsUnion xs ys g = (e : Edge) → Contains g.edges e ↔ (Contains xs e ⊎ Contains ys e)

abbrev pub UnionIsFunctionGraph : Type 0
UnionIsFunctionGraph =
    (p : Program) (a : Analysis) (f : ℕ) (control flow : List Edge) (g : FunctionGraph)
    → AreControlEdges p a f control → AreFlowEdges p a f flow → AreAscendingEdges g.edges → IsUnion control flow g
    → IsFunctionGraph p a f g

-- Flow by rows is flow of a program, where the rows are those of its skeleton and the pairs those of a function.
use Rattle.std.specs.Prelude.{◌↔◌, ℕ, Some, List, Contains}
use Rattle.c_tree.specs.declared.program.Program.{Program}
use Rattle.dep_model.specs.declared.edge.Edge.{Edge}
use Rattle.dep_model.specs.declared.skeleton.FlowGraph.{FlowGraph}
use Rattle.dep_model.specs.declared.skeleton.Pair.{Pair}
use Rattle.dep_model.specs.declared.skeleton.Skeleton.{Skeleton}
use Rattle.dep_model.specs.FunctionVertices.{FollowsIn}
use Rattle.dep_model.specs.ListedLocations.{AreListed}
use Rattle.dep_model.specs.Skeletons.{IsSkeleton}
use Rattle.dep_model.specs.SystemGraph.{Analysis, vertices_of, IsFlowIn}
use Rattle.reaching_defs.specs.RowFlow.{IsRowFlow}

-- the pairs are exactly those of a function's order
abbrev pub AreOrderOf : Program → Analysis → ℕ → List Pair → Type 0
AreOrderOf p a f pairs = (x : Pair) → Contains pairs x ↔ FollowsIn p (vertices_of p a) f x.from (Some x.to)

abbrev pub RowFlowIsFlow : Type 0
RowFlowIsFlow =
    (p : Program) (a : Analysis) (s : Skeleton) (g : FlowGraph) (f : ℕ) → IsSkeleton p a s → AreOrderOf p a f g.pairs → AreListed p a → (e : Edge) → IsRowFlow s g e ↔ IsFlowIn p a.points (vertices_of p a) f e

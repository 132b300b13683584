-- What the definitions of a well-formed program's dependence speak of is there: its points-to relation, its analysis, its graph, what
-- reaches a set of its vertices, and the completion of a set.
use Rattle.std.specs.Prelude.{◌≡◌, ◌↔◌, ℕ, List, Bool, length, IsTrue}
use Rattle.bit_rows.specs.Sets.{has}
use Rattle.c_tree.specs.declared.program.Program.{Program}
use Rattle.c_language.specs.Programs.{IsWellFormed}
use Rattle.dep_model.specs.declared.edge.Edge.{Edge}
use Rattle.dep_model.specs.declared.graph.Graph.{Graph}
use Rattle.dep_model.specs.ClosedSets.{IsCompletionIn}
use Rattle.dep_model.specs.Denoted.{TargetsOf}
use Rattle.dep_model.specs.Graphs.{IsGraphOf}
use Rattle.dep_model.specs.Laws.{IsOneAnalysis}
use Rattle.dep_model.specs.MayPoint.{IsPointsTo}
use Rattle.dep_model.specs.SystemGraph.{Analysis, vertices_of, AreSystemEdges}
use Rattle.dep_model.specs.Words.{ReachesAny}

-- a well-formed program has a points-to relation
abbrev pub ProgramsHavePointsTo : Type 0
ProgramsHavePointsTo = (p : Program) → IsWellFormed p → (points : TargetsOf) × IsPointsTo p points

-- and its one analysis
abbrev pub ProgramsHaveAnAnalysis : Type 0
ProgramsHaveAnAnalysis = (p : Program) → IsWellFormed p → (a : Analysis) × IsOneAnalysis p a

-- and a graph
abbrev pub ProgramsHaveAGraph : Type 0
ProgramsHaveAGraph = (p : Program) → IsWellFormed p → (g : Graph) × IsGraphOf p g

-- exactly the vertices that reach a set
pub record IsWhatReaches (edges : List Edge) (s reached : List Bool) : Type 0 where
  pub size : length reached ≡ length s
  pub exact : (v : ℕ) → IsTrue (has reached v) ↔ ReachesAny edges s v

-- what reaches a set of the program's vertices by matched words is a set
abbrev pub SetsAreReached : Type 0
SetsAreReached =
    (p : Program) (a : Analysis) (edges : List Edge) (s : List Bool) → AreSystemEdges p a edges → length s ≡ length (vertices_of p a) → (reached : List Bool) × IsWhatReaches edges s reached

-- each set of its vertices has a completion
abbrev pub SetsHaveCompletions : Type 0
SetsHaveCompletions =
    (p : Program) (a : Analysis) (edges : List Edge) (s : List Bool) → IsWellFormed p → AreSystemEdges p a edges → length s ≡ length (vertices_of p a)
    → (kept : List Bool) × IsCompletionIn p (vertices_of p a) edges s kept

-- Laws of the graph of a program, and of sets of its vertices that can be projected.
use Rattle.std.specs.Prelude.{◌≡◌, ℕ, List, Bool, length, IsTrue}
use Rattle.bit_rows.specs.Sets.{has}
use Rattle.c_tree.specs.declared.program.Program.{Program}
use Rattle.c_tree.specs.Unlined.{SameButLines}
use Rattle.c_language.specs.Programs.{IsWellFormed}
use Rattle.c_language.specs.Words.{Bytes}
use Rattle.dep_model.specs.declared.edge.Edge.{Edge}
use Rattle.dep_model.specs.declared.graph.Graph.{Graph}
use Rattle.dep_model.specs.declared.points_to.Effects.{Effects}
use Rattle.dep_model.specs.declared.points_to.PointsTo.{PointsTo}
use Rattle.dep_model.specs.ClosedSets.{IsProjectable}
use Rattle.dep_model.specs.Criteria.{criterion_of}
use Rattle.dep_model.specs.Graphs.{IsGraph, IsGraphOf}
use Rattle.dep_model.specs.LocationRows.{points_of, analysis_of, ArePointsRows}
use Rattle.dep_model.specs.SystemGraph.{Analysis, IsAnalysis, vertices_of, AreSystemEdges}
use Rattle.dep_model.specs.Words.{ReachesAny}
use Rattle.mod_ref.specs.Effects.{AreEffectsByPlace}
use Rattle.simulation_values.specs.Following.{Follows}
use Rattle.simulation_values.specs.SameValues.{StandFor, HasSameValues}
use Rattle.slice_engine.specs.Slice.{keeps, sliced, IsSlice}

-- ---- the graph

-- rows of where locations may point, and of what functions modify and use where they point so
pub record AreRowsOf (p : Program) (t : PointsTo) (e : Effects) : Type 0 where
  pub points_are : ArePointsRows p t
  pub effects_are : AreEffectsByPlace p (points_of p t) e

-- such rows say the analysis of a well-formed program
abbrev pub RowsAreTheAnalysis : Type 0
RowsAreTheAnalysis = (p : Program) (t : PointsTo) (e : Effects) → IsWellFormed p → AreRowsOf p t e → IsAnalysis p (analysis_of p t e)

-- and the graph of the program is the one by them
abbrev pub GraphIsByTheRows : Type 0
GraphIsByTheRows = (p : Program) (t : PointsTo) (e : Effects) (g : Graph) → IsWellFormed p → AreRowsOf p t e → IsGraphOf p g → IsGraph p (analysis_of p t e) g

-- ---- sets of its vertices

-- a set of vertices of the program's system graph is closed under all closures, and can be projected
pub record CanBeProjected (p : Program) (a : Analysis) (s : List Bool) : Type 0 where
  pub is_analysis : IsAnalysis p a
  pub edges : List Edge
  pub are_edges : AreSystemEdges p a edges
  pub long : length s ≡ length (vertices_of p a)
  pub projectable : IsProjectable p (vertices_of p a) edges s

-- the projection is a well-formed program, in programs of every form
abbrev pub ProjectionIsWellFormed : Type 0
ProjectionIsWellFormed =
    (p : Program) (a : Analysis) (s : List Bool) → IsWellFormed p → CanBeProjected p a s → IsWellFormed (sliced p a s)

-- where the set has all that reaches a criterion, it gives the values of the program there, whatever its form
abbrev pub ProjectionHasSameValues : Type 0
ProjectionHasSameValues =
    (p q : Program) (a : Analysis) (s : List Bool) (set ranks : ℕ → Bool) → IsWellFormed p → (k : CanBeProjected p a s)
    → ((v : ℕ) → ReachesAny k.edges (criterion_of set (vertices_of p a)) v → IsTrue (has s v)) → StandFor (keeps p a s) set ranks
    → SameButLines q (sliced p a s) → HasSameValues (keeps p a s) set ranks p q

-- on each input it follows the program: up to each point to which that comes, and to its end, it does the acts that both share, and no
-- other, in their order; and before each of them, and at the end, blocks stand for blocks, and what is wanted agrees up to that. No
-- criterion is told
abbrev pub SlicesFollowOriginals : Type 0
SlicesFollowOriginals =
    (p q : Program) (a : Analysis) (s : List Bool) (input : List ℕ) → IsWellFormed p → CanBeProjected p a s
    → SameButLines q (sliced p a s) → Follows p q a s input

-- ---- slices

-- a text is the one slice of a program at a line
pub record IsOneSlice (p : Program) (line : ℕ) (text : Bytes) : Type 0 where
  pub is_slice : IsSlice p line text
  pub one : (other : Bytes) → IsSlice p line other → other ≡ text

-- each line has one in a well-formed program
abbrev pub LinesHaveOneSlice : Type 0
LinesHaveOneSlice = (p : Program) (line : ℕ) → IsWellFormed p → (text : Bytes) × IsOneSlice p line text

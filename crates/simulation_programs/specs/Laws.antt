-- The projection of a program has the projections of the bodies of its functions, and what runs need beside them.
use Rattle.std.specs.Prelude.{ℕ, Bool, List}
use Rattle.c_tree.specs.Unlined.{SameButLines}
use Rattle.c_tree.specs.declared.program.Program.{Program}
use Rattle.c_language.specs.Programs.{IsWellFormed}
use Rattle.dep_model.specs.declared.edge.Edge.{Edge}
use Rattle.dep_model.specs.ClosedSets.{IsProjectable}
use Rattle.dep_model.specs.SystemGraph.{Analysis, vertices_of, AreSystemEdges}
use Rattle.projection.specs.Kept.{Kept}
use Rattle.projection.specs.KeptVertices.{kept_of, projection}
use Rattle.projection.specs.Projection.{projected_program}
use Rattle.hanging_sets.specs.Hanging.{HangsTogether}
use Rattle.simulation_places.specs.Counterparts.{AreProjected, ranks_of}
use Rattle.simulation_places.specs.LikeParts.{HasLikeParts}

-- where what is kept of a well-formed program of any form hangs together, its projection has what is kept of what runs need
abbrev pub HangingHasLikeParts : Type 0
HangingHasLikeParts =
    (p q : Program) (k : Kept ℕ) → IsWellFormed p → HangsTogether p k → SameButLines q (projected_program k p) → HasLikeParts p q k (ranks_of k)

-- so where a set of vertices can be projected, the projection to it has the projections of the bodies of kept functions, and keeps what
-- the vertices say
abbrev pub ProjectionsAreProjected : Type 0
ProjectionsAreProjected =
    (p q : Program) (a : Analysis) (edges : List Edge) (kept : List Bool) → IsWellFormed p → AreSystemEdges p a edges
    → IsProjectable p (vertices_of p a) edges kept → SameButLines q (projection p (vertices_of p a) kept)
    → AreProjected p q a (kept_of kept (vertices_of p a) p) (ranks_of (kept_of kept (vertices_of p a) p)) kept

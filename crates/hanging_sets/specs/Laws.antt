-- What a set of vertices that can be projected keeps of a well-formed program of any form hangs together.
use Rattle.std.specs.Prelude.{◌≡◌, ℕ, Bool, true, List}
use Rattle.bit_rows.specs.Sets.{has}
use Rattle.c_tree.specs.declared.program.Program.{Program}
use Rattle.c_tree.specs.Unlined.{SameButLines}
use Rattle.c_language.specs.Programs.{IsWellFormed}
use Rattle.dep_model.specs.declared.edge.Edge.{Edge}
use Rattle.dep_model.specs.declared.vertex.Vertex.{Vertex}
use Rattle.dep_model.specs.declared.vertex.VertexKind.{VertexKind}
use Rattle.dep_model.specs.declared.vertex.VertexKind.TheVariants.{Entry}
use Rattle.dep_model.specs.ClosedSets.{IsProjectable}
use Rattle.dep_model.specs.SystemGraph.{Analysis, vertices_of, AreSystemEdges, IsVertex}
use Rattle.projection.specs.KeptVertices.{kept_words, kept_of, projection}
use Rattle.projection_laws.specs.Nested.{IsNested}
use Rattle.hanging_sets.specs.Hanging.{HangsTogether}
use Rattle.hanging_sets.specs.OwnParts.{HasOwnParts}

-- What a set that is closed under control has: each if, loop and switch is kept in which something is kept, and the entry of each
-- function is in it of which it holds a vertex.
pub record IsNestedSet (p : Program) (vs : List Vertex) (set : List Bool) : Type 0 where
  pub nested : IsNested (kept_words set vs).statement p
  pub entries : (f v u : ℕ) (kind : VertexKind) → IsVertex vs f kind v → has set v ≡ true → IsVertex vs f Entry u → has set u ≡ true

-- a set of the vertices of a program, by an analysis, that can be projected
pub record CanProject (p : Program) (a : Analysis) (set : List Bool) : Type 0 where
  pub edges : List Edge
  pub are_edges : AreSystemEdges p a edges
  pub projectable : IsProjectable p (vertices_of p a) edges set
  pub nests : IsNestedSet p (vertices_of p a) set

-- what it keeps hangs together, where parameters and returns belong to one function each
abbrev pub SetsHangTogether : Type 0
SetsHangTogether = (p : Program) (a : Analysis) (set : List Bool) → IsWellFormed p → HasOwnParts p → CanProject p a set → HangsTogether p (kept_of set (vertices_of p a) p)

-- the projections of programs that are the same but for lines, to the same vertices, are the same but for lines
abbrev pub ProjectionsAreSame : Type 0
ProjectionsAreSame = (p q : Program) (vs : List Vertex) (set : List Bool) → SameButLines p q → SameButLines (projection p vs set) (projection q vs set)

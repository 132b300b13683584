-- What hangs together of a well-formed program of any form is a text, and so is what is kept of it by a set of vertices that can be projected.
use Rattle.std.specs.Prelude.{ℕ, Bool, List}
use Rattle.c_tree.specs.declared.program.Program.{Program}
use Rattle.c_tree.specs.declared.raw.program.RawProgram.{RawProgram}
use Rattle.c_language.specs.Programs.{IsTree, HasProgram, IsWithinLimits, IsWellFormed}
use Rattle.dep_model.specs.declared.edge.Edge.{Edge}
use Rattle.dep_model.specs.ClosedSets.{IsProjectable}
use Rattle.dep_model.specs.SystemGraph.{Analysis, vertices_of, AreSystemEdges}
use Rattle.c_scope_laws.specs.ThinnedTexts.{KeepsText}
use Rattle.projection.specs.Kept.{Kept}
use Rattle.projection.specs.KeptVertices.{kept_words, kept_of, projection}
use Rattle.projection.specs.Projection.{projected_program}
use Rattle.projection_laws.specs.Staying.{IsClear}
use Rattle.hanging_sets.specs.Hanging.{HangsTogether}
use Rattle.hanging_sets.specs.Laws.{CanProject}
use Rattle.hanging_sets.specs.OwnParts.{HasOwnParts}
use Rattle.own_words.specs.OwnWords.{KeepsWords}
use Rattle.kept_texts.specs.KeptNames.{by_names}

-- a well-formed program's parameters and returns belong to one function each
abbrev pub FunctionsHaveOwnParts : Type 0
FunctionsHaveOwnParts = (p : Program) → IsWellFormed p → HasOwnParts p

-- nothing stays in an if, loop or switch that isn't kept, but for what a for begins with
abbrev pub HangingIsClear : Type 0
HangingIsClear = (p : Program) (k : Kept ℕ) → IsWellFormed p → HangsTogether p k → IsClear k.statement k.variable p

-- what hangs together of the program of a text within the limits is what the laws on thinner texts ask for
abbrev pub HangingIsText : Type 0
HangingIsText = (raw : RawProgram) (p : Program) (k : Kept ℕ) → IsTree raw → HasProgram raw p → IsWithinLimits raw p → HangsTogether p k → KeepsText (by_names k raw) raw

-- so its projection is well formed
abbrev pub HangingIsWellFormed : Type 0
HangingIsWellFormed = (p : Program) (k : Kept ℕ) → IsWellFormed p → HangsTogether p k → IsWellFormed (projected_program k p)

-- and each kept statement has its own words in it, but for what a call loses
abbrev pub HangingKeepsWords : Type 0
HangingKeepsWords = (p : Program) (k : Kept ℕ) → IsWellFormed p → HangsTogether p k → KeepsWords p k

-- ---- sets of vertices of the system graph that can be projected

-- each if, loop and switch is kept in which something is kept, and the entry of each function of which a vertex is kept
abbrev pub ProjectableNests : Type 0
ProjectableNests = (p : Program) (a : Analysis) (edges : List Edge) (set : List Bool) → IsWellFormed p → AreSystemEdges p a edges → IsProjectable p (vertices_of p a) edges set → CanProject p a set

-- what such a set keeps hangs together
abbrev pub ProjectableHangs : Type 0
ProjectableHangs =
    (p : Program) (a : Analysis) (edges : List Edge) (set : List Bool) → IsWellFormed p → AreSystemEdges p a edges → IsProjectable p (vertices_of p a) edges set → HangsTogether p (kept_of set (vertices_of p a) p)

-- so the projection to it is well formed
abbrev pub ProjectionIsWellFormed : Type 0
ProjectionIsWellFormed =
    (p : Program) (a : Analysis) (edges : List Edge) (set : List Bool) → IsWellFormed p → AreSystemEdges p a edges → IsProjectable p (vertices_of p a) edges set → IsWellFormed (projection p (vertices_of p a) set)

-- and nothing stays in an if, loop or switch that the set doesn't keep, but for what a for begins with
abbrev pub ProjectionIsClear : Type 0
ProjectionIsClear =
    (p : Program) (a : Analysis) (edges : List Edge) (set : List Bool) → IsWellFormed p → AreSystemEdges p a edges → IsProjectable p (vertices_of p a) edges set
    → IsClear (kept_words set (vertices_of p a)).statement (kept_of set (vertices_of p a) p).variable p

-- each statement that the set keeps has its own words in the projection, but for what a call loses
abbrev pub ProjectionKeepsWords : Type 0
ProjectionKeepsWords =
    (p : Program) (a : Analysis) (edges : List Edge) (set : List Bool) → IsWellFormed p → AreSystemEdges p a edges → IsProjectable p (vertices_of p a) edges set → KeepsWords p (kept_of set (vertices_of p a) p)

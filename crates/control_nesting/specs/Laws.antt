-- What is closed under control is nested, and has the entries of its functions, and what a slice keeps can be projected: in
-- well-formed programs of every form.
use Rattle.std.specs.Prelude.{◌≡◌, ◌↔◌, ℕ, true, List, length, Bool, IsTrue}
use Rattle.bit_rows.specs.Sets.{has}
use Rattle.c_tree.specs.declared.program.Program.{Program}
use Rattle.c_tree.specs.declared.raw.program.RawProgram.{RawProgram}
use Rattle.c_language.specs.Programs.{IsTree, HasProgram, IsWellFormed}
use Rattle.dep_model.specs.declared.edge.Edge.{Edge}
use Rattle.dep_model.specs.declared.vertex.Vertex.{Vertex}
use Rattle.dep_model.specs.ClosedSets.{IsClosedIn, IsCompletionIn, IsProjectable}
use Rattle.dep_model.specs.Criteria.{criterion_of}
use Rattle.dep_model.specs.Facts.{IsIn}
use Rattle.dep_model.specs.SystemGraph.{Analysis, vertices_of, AreSystemEdges}
use Rattle.dep_model.specs.Words.{ReachesAny}
use Rattle.projection.specs.KeptVertices.{kept_words}
use Rattle.projection_laws.specs.Nested.{IsNested, stands_in}
use Rattle.control_nesting.specs.ControlledVertices.{IsControlledBy, IsFromEntry, IsControlClosed, HoldsEntry, KeepsMain}
use Rattle.control_nesting.specs.TakenArms.{TakesAll}

-- a statement of a well-formed program has a control edge from the one in which it stands, with none between
abbrev pub StandingIsControlled : Type 0
StandingIsControlled =
    (p : Program) (a : Analysis) (outer inner : ℕ) → IsWellFormed p → stands_in p outer inner ≡ true → IsControlledBy p (vertices_of p a) outer inner

-- control edges lead from the entry of a function to each of its vertices
abbrev pub EntriesReachAll : Type 0
EntriesReachAll =
    (p : Program) (a : Analysis) (f v : ℕ) → IsWellFormed p → IsIn (vertices_of p a) f v → IsFromEntry p (vertices_of p a) f v

-- so a set of vertices that has the controllers of its members is nested
abbrev pub ClosedIsNested : Type 0
ClosedIsNested =
    (p : Program) (a : Analysis) (s : List Bool) → IsWellFormed p → IsControlClosed p (vertices_of p a) s → IsNested (kept_words s (vertices_of p a)).statement p

-- and it has the entry of each function of which it has a vertex
abbrev pub ClosedHoldsEntries : Type 0
ClosedHoldsEntries =
    (p : Program) (a : Analysis) (s : List Bool) (f v : ℕ) → IsWellFormed p → IsControlClosed p (vertices_of p a) s → IsIn (vertices_of p a) f v → IsTrue (has s v) → HoldsEntry (vertices_of p a) s f

-- a set that is closed under all closures of the system graph has the controllers of its members
abbrev pub ClosedHasControllers : Type 0
ClosedHasControllers =
    (p : Program) (a : Analysis) (edges : List Edge) (s : List Bool) → AreSystemEdges p a edges → IsClosedIn p (vertices_of p a) edges s → IsControlClosed p (vertices_of p a) s

-- and it keeps main
abbrev pub ClosedKeepsMain : Type 0
ClosedKeepsMain = (p : Program) (vs : List Vertex) (edges : List Edge) (s : List Bool) → IsClosedIn p vs edges s → KeepsMain p vs s

-- the completion of exactly what reaches the vertices of some statements can be projected, whatever the analysis
abbrev pub CompletedIsProjectable : Type 0
CompletedIsProjectable =
    (p : Program) (a : Analysis) (edges : List Edge) (set : ℕ → Bool) (reached kept : List Bool) → IsWellFormed p → AreSystemEdges p a edges
    → length reached ≡ length (vertices_of p a) → ((v : ℕ) → IsTrue (has reached v) ↔ ReachesAny edges (criterion_of set (vertices_of p a)) v)
    → IsCompletionIn p (vertices_of p a) edges reached kept → IsProjectable p (vertices_of p a) edges kept

-- in the program of a tree of tokens that keeps all rules each arm of a switch is taken
abbrev pub TextsTakeAll : Type 0
TextsTakeAll = (raw : RawProgram) (p : Program) → IsTree raw → HasProgram raw p → TakesAll p

-- and so in a well-formed one
abbrev pub WellFormedTakesAll : Type 0
WellFormedTakesAll = (p : Program) → IsWellFormed p → TakesAll p

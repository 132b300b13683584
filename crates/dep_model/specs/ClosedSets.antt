-- Sets of a program's vertices: which are closed, the completion of a set, and which can be projected.
use Rattle.std.specs.Prelude.{◌≡◌, ℕ, Bool, List, Some, Contains, IsTrue}
use Rattle.bit_rows.specs.Sets.{has}
use Rattle.c_tree.specs.declared.program.Program.{Program}
use Rattle.c_language.specs.Mains.{main_of}
use Rattle.dep_model.specs.declared.edge.Edge.{Edge}
use Rattle.dep_model.specs.declared.edge.Label.TheVariants.{In}
use Rattle.dep_model.specs.declared.vertex.Slot.TheVariants.{Argument}
use Rattle.dep_model.specs.declared.vertex.Vertex.{Vertex}
use Rattle.dep_model.specs.declared.vertex.VertexKind.TheVariants.{Entry, ActualIn}
use Rattle.dep_model.specs.Completion.{IsClosed, IsCompletion}
use Rattle.dep_model.specs.NamedParameters.{NamesParameter}
use Rattle.dep_model.specs.SystemGraph.{IsVertex}

-- a vertex is the entry of main
pub record IsMainEntry (p : Program) (vs : List Vertex) (v : ℕ) : Type 0 where
  pub function : ℕ
  pub is_main : main_of p ≡ Some function
  pub entry : IsVertex vs function Entry v

-- a set is closed under all closures of a program's graph
pub record IsClosedIn (p : Program) (vs : List Vertex) (edges : List Edge) (s : List Bool) : Type 0 where
  pub main : ℕ
  pub is_entry : IsMainEntry p vs main
  pub closed : IsClosed edges (NamesParameter p vs) main s

-- k is the completion of x
pub record IsCompletionIn (p : Program) (vs : List Vertex) (edges : List Edge) (x k : List Bool) : Type 0 where
  pub main : ℕ
  pub is_entry : IsMainEntry p vs main
  pub completes : IsCompletion edges (NamesParameter p vs) main x k

-- a set can be projected: it is closed, and has the formal-in of each argument whose actual-in it has
pub record IsProjectable (p : Program) (vs : List Vertex) (edges : List Edge) (s : List Bool) : Type 0 where
  pub closed : IsClosedIn p vs edges s
  pub arguments : (e : Edge) (c f i k : ℕ) → Contains edges e → e.label ≡ In c
      → IsVertex vs f (ActualIn i (Argument k)) e.from → IsTrue (has s e.from) → IsTrue (has s e.to)

-- The vertices of statements, chains of control edges, and sets of vertices that are closed under control.
use Rattle.std.specs.Prelude.{◌≡◌, ℕ, Bool, true, List, Some, Contains, IsTrue}
use Rattle.bit_rows.specs.Sets.{has}
use Rattle.c_tree.specs.declared.program.Program.{Program}
use Rattle.c_language.specs.Mains.{main_of}
use Rattle.dep_model.specs.declared.edge.Edge.{Edge}
use Rattle.dep_model.specs.declared.edge.Label.TheVariants.{Control}
use Rattle.dep_model.specs.declared.vertex.Vertex.{Vertex}
use Rattle.dep_model.specs.declared.vertex.VertexKind.TheVariants.{Entry}
use Rattle.dep_model.specs.FunctionVertices.{is_own, numbers, IsControlIn}
use Rattle.dep_model.specs.Graphs.{edge}
use Rattle.dep_model.specs.SystemGraph.{IsVertex}
use Rattle.projection.specs.KeptVertices.{keeps_function}

-- v is the vertex of statement i of the function, for a call its call vertex
abbrev pub IsOwn : List Vertex → ℕ → ℕ → ℕ → Type 0
IsOwn vs f i v = Contains (numbers (is_own i) f vs) v

-- statement i has a vertex in the function, and in no other
pub record HasVertex (vs : List Vertex) (f i : ℕ) : Type 0 where
  pub vertex : ℕ
  pub owned : IsOwn vs f i vertex
  pub alone : (g v : ℕ) → IsOwn vs g i v → g ≡ f

-- a control edge leads from statement `outer` to statement `inner`, which are of one function
pub record IsControlledBy (p : Program) (vs : List Vertex) (outer inner : ℕ) : Type 0 where
  pub function : ℕ
  pub from : HasVertex vs function outer
  pub to : HasVertex vs function inner
  pub leads : (u v : ℕ) → IsOwn vs function outer u → IsOwn vs function inner v → IsControlIn p vs function (edge u v Control)

-- control edges of the function lead from u, one after another
pub data IsControlChain (p : Program) (vs : List Vertex) (f u : ℕ) : ℕ → Type 0 where
  begins : IsControlChain p vs f u u
  goes_on : {v w : ℕ} → IsControlChain p vs f u v → IsControlIn p vs f (edge v w Control) → IsControlChain p vs f u w

-- control edges lead to v from the entry of the function
pub record IsFromEntry (p : Program) (vs : List Vertex) (f v : ℕ) : Type 0 where
  pub entry : ℕ
  pub is_entry : IsVertex vs f Entry entry
  pub chain : IsControlChain p vs f entry v

-- a set of vertices has the controllers of its members
abbrev pub IsControlClosed : Program → List Vertex → List Bool → Type 0
IsControlClosed p vs s = (f : ℕ) (e : Edge) → IsControlIn p vs f e → IsTrue (has s e.to) → IsTrue (has s e.from)

-- a set has the entry of a function, so that the function is kept
pub record HoldsEntry (vs : List Vertex) (s : List Bool) (f : ℕ) : Type 0 where
  pub entry : (e : ℕ) → IsVertex vs f Entry e → IsTrue (has s e)
  pub kept : keeps_function s vs f ≡ true

-- main is kept
pub record KeepsMain (p : Program) (vs : List Vertex) (s : List Bool) : Type 0 where
  pub main : ℕ
  pub is_main : main_of p ≡ Some main
  pub kept : keeps_function s vs main ≡ true

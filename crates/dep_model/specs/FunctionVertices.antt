-- The vertices of one function among those of a program: their order, and their control edges.
use Rattle.std.specs.Prelude.{◌≡◌, ℕ, suc, ◌==◌, List, [], ◌∷◌, ◌++◌, Bool, true, false, ◌&&◌, ◌||◌, if◌then◌else◌, Option, Some, None, ◌⊎◌, Contains, slice_get}
use Rattle.std.specs.Option.{option_map_or}
use Rattle.c_tree.specs.declared.program.Program.{Program}
use Rattle.c_tree.specs.declared.program.Function.{Function}
use Rattle.c_language.specs.Code.{Code, End, code}
use Rattle.dep_model.specs.declared.edge.Edge.{Edge}
use Rattle.dep_model.specs.declared.edge.Label.TheVariants.{Control}
use Rattle.dep_model.specs.declared.vertex.Vertex.{Vertex}
use Rattle.dep_model.specs.declared.vertex.VertexKind.{VertexKind}
use Rattle.dep_model.specs.declared.vertex.VertexKind.TheVariants.{Entry, FormalIn, FormalOut, Statement, Call, ActualIn, ActualOut}
use Rattle.dep_model.specs.Controls.{Controller, Controls}
use Rattle.dep_model.specs.Follows.{enters, InTurn, VerticesAt, start, Follows}

-- a statement's vertex, or a call statement's call
abbrev pub is_own : ℕ → VertexKind → Bool
is_own i Entry = false
is_own i (FormalIn slot) = false
is_own i (FormalOut slot) = false
is_own i (Statement j) = j == i
is_own i (Call j) = j == i
is_own i (ActualIn j slot) = false
is_own i (ActualOut j slot) = false

-- an actual of a call statement
abbrev pub is_actual : ℕ → VertexKind → Bool
is_actual i Entry = false
is_actual i (FormalIn slot) = false
is_actual i (FormalOut slot) = false
is_actual i (Statement j) = false
is_actual i (Call j) = false
is_actual i (ActualIn j slot) = j == i
is_actual i (ActualOut j slot) = j == i

abbrev pub is_entry : VertexKind → Bool
is_entry Entry = true
is_entry _ = false

abbrev pub is_formal_in : VertexKind → Bool
is_formal_in (FormalIn slot) = true
is_formal_in _ = false

abbrev pub is_formal_out : VertexKind → Bool
is_formal_out (FormalOut slot) = true
is_formal_out _ = false

-- a vertex of the function whose kind passes the test
abbrev pub passes : (VertexKind → Bool) → ℕ → Vertex → Bool
passes test f v = (v.function == f) && test v.kind

-- the numbers of these vertices, where the first of the list has the number n
abbrev pub numbers_from : (Vertex → Bool) → ℕ → List Vertex → List ℕ
numbers_from test n [] = []
numbers_from test n (v ∷ vs) = if test v then n ∷ numbers_from test (suc n) vs else numbers_from test (suc n) vs

abbrev pub numbers : (VertexKind → Bool) → ℕ → List Vertex → List ℕ
numbers test f vs = numbers_from (passes test f) 0 vs

-- the code of a function
abbrev pub code_in : Program → ℕ → Code
code_in p f = option_map_or (λ (g : Function). code g.body) (slice_get p.functions f) End

-- the vertices of a statement, a call's call vertex first
abbrev pub vertices_at : List Vertex → ℕ → VerticesAt ℕ
vertices_at vs f i act = numbers (λ k. is_own i k || is_actual i k) f vs

-- the entry and the formal-ins
abbrev pub heads : List Vertex → ℕ → List ℕ
heads vs f = numbers is_entry f vs ++ numbers is_formal_in f vs

abbrev pub tails : List Vertex → ℕ → List ℕ
tails vs f = numbers is_formal_out f vs

-- w may be done directly after v in the function: the entry, the formal-ins, the body and the formal-outs follow in order
abbrev pub FollowsIn : Program → List Vertex → ℕ → ℕ → Option ℕ → Type 0
FollowsIn p vs f v w =
    InTurn (heads vs f) (start (vertices_at vs f) (code_in p f) (enters (tails vs f) None)) v w ⊎ (Follows (vertices_at vs f) (code_in p f) (enters (tails vs f) None) v w ⊎ InTurn (tails vs f) None v w)

-- the vertices of a controller
abbrev pub controller_vertices : List Vertex → ℕ → Controller → List ℕ
controller_vertices vs f None = numbers is_entry f vs
controller_vertices vs f (Some i) = numbers (is_own i) f vs

-- the control edges of the function: a statement has its controllers, a formal the entry, and an actual its call
pub data IsControlIn (p : Program) (vs : List Vertex) (f : ℕ) (e : Edge) : Type 0 where
  nested : (v : Controller) (i : ℕ) → e.label ≡ Control → Controls (code_in p f) None v i → Contains (controller_vertices vs f v) e.from → Contains (numbers (is_own i) f vs) e.to → IsControlIn p vs f e
  formal : e.label ≡ Control → Contains (numbers is_entry f vs) e.from → Contains (numbers (λ k. is_formal_in k || is_formal_out k) f vs) e.to → IsControlIn p vs f e
  actual : (i : ℕ) → e.label ≡ Control → Contains (numbers (is_own i) f vs) e.from → Contains (numbers (is_actual i) f vs) e.to → IsControlIn p vs f e

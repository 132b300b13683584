-- What a set of a program's vertices keeps of what the law on slices speaks of: statements, calls, and what goes in and comes out, by
-- location.
use Rattle.std.specs.Prelude.{ℕ, ◌==◌, List, Bool, true, false, ◌&&◌}
use Rattle.std.specs.List.{list_any}
use Rattle.bit_rows.specs.Sets.{has}
use Rattle.c_tree.specs.declared.program.Program.{Program}
use Rattle.dep_model.specs.declared.location.Location.{Location}
use Rattle.dep_model.specs.declared.vertex.Slot.TheVariants.{Argument, Result, At}
use Rattle.dep_model.specs.declared.vertex.VertexKind.{VertexKind}
use Rattle.dep_model.specs.declared.vertex.VertexKind.TheVariants as kind
use Rattle.dep_model.specs.FunctionVertices.{is_formal_out, numbers}
use Rattle.dep_model.specs.ModRef.{is_outside}
use Rattle.dep_model.specs.SystemGraph.{Analysis, vertices_of}
use Rattle.dep_model.specs.VertexOrder.{kind_uses, kind_defines, kind_kills}
use Rattle.simulation.specs.Settings as law
use Rattle.simulation.specs.Settings.{Statement, FormalIn, FormalOut, Calling, ActualIn, ActualOut, ResultOut}
use Rattle.simulation_locations.specs.Wanted.{comes_out, gives_result}

abbrev pub is_statement : ℕ → VertexKind → Bool
is_statement i (kind.Statement j) = j == i
is_statement i _ = false

abbrev pub is_call : ℕ → VertexKind → Bool
is_call i (kind.Call j) = j == i
is_call i _ = false

-- the formal-in of a location, and of a parameter
abbrev pub takes_location : VertexKind → Bool
takes_location (kind.FormalIn (At k)) = true
takes_location _ = false

abbrev pub takes_argument : VertexKind → Bool
takes_argument (kind.FormalIn (Argument k)) = true
takes_argument _ = false

-- the formal-in of a location that is seen outside of the function, or else of a parameter
abbrev pub takes_in : Bool → VertexKind → Bool
takes_in true k = takes_location k
takes_in false k = takes_argument k

-- the actual-in of a location, and of an argument, at a statement's call
abbrev pub passes_in : ℕ → VertexKind → Bool
passes_in i (kind.ActualIn j (At k)) = j == i
passes_in i _ = false

abbrev pub gives_in : ℕ → VertexKind → Bool
gives_in i (kind.ActualIn j (Argument k)) = j == i
gives_in i _ = false

module _ (p : Program) (a : Analysis) where
  -- the numbers of the program's vertices for which one stands
  abbrev pub meant_by : law.Vertex Location → List ℕ
  meant_by (Statement f i) = numbers (is_statement i) f (vertices_of p a)
  meant_by (FormalIn f l) = numbers (λ k. takes_in (is_outside p l) k && kind_defines p a.points f k l) f (vertices_of p a)
  meant_by (FormalOut f l) = numbers (λ k. is_formal_out k && kind_uses p a.points f k l) f (vertices_of p a)
  meant_by (Calling f i g) = numbers (is_call i) f (vertices_of p a)
  meant_by (ActualIn f i g l) = numbers (λ k. passes_in i k && kind_uses p a.points f k l) f (vertices_of p a)
  meant_by (ActualOut f i g l) = numbers (λ k. comes_out i k && kind_defines p a.points f k l) f (vertices_of p a)
  meant_by (ResultOut f i g) = numbers (gives_result i) f (vertices_of p a)

  -- one of some vertices is in a set
  abbrev pub any_kept : List Bool → List ℕ → Bool
  any_kept kept ns = list_any (λ (n : ℕ). has kept n) ns

  abbrev pub keeps_vertex : List Bool → law.Vertex Location → Bool
  keeps_vertex kept x = any_kept kept (meant_by x)

  -- what the actual-ins of a call's kept arguments may use
  abbrev pub arguments_use : List Bool → (function id callee : ℕ) → Location → Bool
  arguments_use kept f i g l = any_kept kept (numbers (λ k. gives_in i k && kind_uses p a.points f k l) f (vertices_of p a))

  -- a function has a formal-in of a location
  abbrev pub takes : ℕ → Location → Bool
  takes f l = list_any (λ (n : ℕ). true) (meant_by (FormalIn f l))

  -- what statements, and results of calls, may use, define and kill
  abbrev pub vertex_uses : law.Vertex Location → Location → Bool
  vertex_uses (Statement f i) l = kind_uses p a.points f (kind.Statement i) l
  vertex_uses (ResultOut f i g) l = kind_uses p a.points f (kind.ActualOut i Result) l
  vertex_uses _ l = false

  abbrev pub vertex_defines : law.Vertex Location → Location → Bool
  vertex_defines (Statement f i) l = kind_defines p a.points f (kind.Statement i) l
  vertex_defines (ResultOut f i g) l = kind_defines p a.points f (kind.ActualOut i Result) l
  vertex_defines _ l = false

  abbrev pub vertex_kills : law.Vertex Location → Location → Bool
  vertex_kills (Statement f i) l = kind_kills p a.points f (kind.Statement i) l
  vertex_kills (ResultOut f i g) l = kind_kills p a.points f (kind.ActualOut i Result) l
  vertex_kills _ l = false

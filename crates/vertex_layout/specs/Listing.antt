-- The vertices of a program as they are listed, function by function and statement by statement.
use Rattle.std.specs.Prelude.{◌≡◌, ℕ, zero, suc, ◌<◌, List, [], ◌∷◌, ◌++◌, map, Bool, true, false, if◌then◌else◌, Option, Some, None}
use Rattle.c_tree.specs.declared.limits.LimitName.{LimitName}
use Rattle.c_tree.specs.declared.limits.LimitName.TheVariants as limit
use Rattle.c_tree.specs.declared.statement.Statement.{Statement}
use Rattle.c_tree.specs.declared.statement.Target.{Target}
use Rattle.c_tree.specs.declared.statement.Target.TheVariants as target
use Rattle.dep_model.specs.declared.graph_fault.GraphFault.{GraphFault}
use Rattle.dep_model.specs.declared.graph_fault.GraphFault.TheVariants.{Limit}
use Rattle.dep_model.specs.declared.vertex.Slot.{Slot}
use Rattle.dep_model.specs.declared.vertex.Slot.TheVariants.{Argument, Result}
use Rattle.dep_model.specs.declared.vertex.Vertex.{Vertex}
use Rattle.dep_model.specs.declared.vertex.VertexKind.{VertexKind}
use Rattle.dep_model.specs.declared.vertex.VertexKind.TheVariants.{Entry, FormalIn, FormalOut, Call, ActualIn, ActualOut}
use Rattle.dep_model.specs.Doings.{Doing, body_doings}
use Rattle.dep_model.specs.VertexOrder.{in_function, slots_of, doing_vertices, all_vertices}
use Rattle.vertex_layout.specs.declared.listing.Port.{Port}
use Rattle.vertex_layout.specs.declared.listing.Port.TheVariants as port
use Rattle.vertex_layout.specs.declared.seen.Touch.{Touch}
use Rattle.vertex_layout.specs.declared.seen.Touch.TheVariants as touch
use Rattle.vertex_layout.specs.Seen.{SeenProgram, effects_in, touches, gives_result}

-- a fault that tells a limit tells that of vertices, and there are more than it allows
abbrev pub IsAbove : ℕ → GraphFault → Type 0
IsAbove n fault = (name : LimitName) → fault ≡ Limit name → (name ≡ limit.Vertices) × (65536 < n)

-- a formal or an actual of a slot
abbrev pub through : Port → Slot → VertexKind
through port.FormalIn slot = FormalIn slot
through port.FormalOut slot = FormalOut slot
through (port.ActualIn i) slot = ActualIn i slot
through (port.ActualOut i) slot = ActualOut i slot

-- the vertices of these kinds in function f
abbrev pub vertices_in : ℕ → List VertexKind → List Vertex
vertices_in f kinds = map (in_function f) kinds

-- so many arguments, from the k-th on
abbrev pub argument_slots : ℕ → ℕ → List Slot
argument_slots k zero = []
argument_slots k (suc n) = Argument k ∷ argument_slots (suc k) n

abbrev pub result_if : Bool → List Slot
result_if b = if b then Result ∷ [] else []

abbrev pub is_stored : Target → Bool
is_stored target.None = false
is_stored (target.Place e) = true
is_stored (target.Declared x) = true

module _ (s : SeenProgram) where
  abbrev pub touched_slots : Touch → ℕ → List Slot
  touched_slots t f = slots_of s.program (effects_in s) (touches (effects_in s) t f)

  -- so many arguments, and each location that function g modifies or uses
  abbrev pub in_kinds : Port → ℕ → ℕ → List VertexKind
  in_kinds through_port n g = map (through through_port) (argument_slots 0 n ++ touched_slots touch.Either g)

  -- each location that function g modifies, and the result or not
  abbrev pub out_kinds : Port → ℕ → Bool → List VertexKind
  out_kinds through_port g b = map (through through_port) (touched_slots touch.Modified g ++ result_if b)

  -- a call of function g with so many arguments, whose result is stored or not
  abbrev pub call_kinds : ℕ → ℕ → ℕ → Bool → List VertexKind
  call_kinds i g n b = Call i ∷ (in_kinds (port.ActualIn i) n g ++ out_kinds (port.ActualOut i) g b)

  -- a function with so many parameters and this body
  abbrev pub part_kinds : ℕ → ℕ → List Statement → List VertexKind
  part_kinds f n body =
      Entry ∷ (in_kinds port.FormalIn n f ++ (all_vertices s.program (effects_in s) (body_doings body) ++ out_kinds port.FormalOut f (gives_result s.program f)))

  -- the vertices of what a statement does itself
  abbrev pub own_kinds : Option Doing → List VertexKind
  own_kinds None = []
  own_kinds (Some d) = doing_vertices s.program (effects_in s) d

  abbrev pub all_own_kinds : List (Option Doing) → List VertexKind
  all_own_kinds [] = []
  all_own_kinds (d ∷ ds) = own_kinds d ++ all_own_kinds ds

-- The vertices of a criterion: those of its statements.
use Rattle.std.specs.Prelude.{ℕ, Bool, false, List, map}
use Rattle.dep_model.specs.declared.vertex.Slot.TheVariants.{Argument, Result, At}
use Rattle.dep_model.specs.declared.vertex.Vertex.{Vertex}
use Rattle.dep_model.specs.declared.vertex.VertexKind.{VertexKind}
use Rattle.dep_model.specs.declared.vertex.VertexKind.TheVariants.{Entry, FormalIn, FormalOut, Statement, Call, ActualIn, ActualOut}

-- the vertex of a statement of the set; for a call its call vertex, and the actual-out of its result where there is one
abbrev pub is_wanted : (ℕ → Bool) → VertexKind → Bool
is_wanted set Entry = false
is_wanted set (FormalIn slot) = false
is_wanted set (FormalOut slot) = false
is_wanted set (Statement i) = set i
is_wanted set (Call i) = set i
is_wanted set (ActualIn i slot) = false
is_wanted set (ActualOut i (Argument k)) = false
is_wanted set (ActualOut i Result) = set i
is_wanted set (ActualOut i (At k)) = false

-- exactly the vertices of these statements
abbrev pub criterion_of : (ℕ → Bool) → List Vertex → List Bool
criterion_of set vs = map (λ (v : Vertex). is_wanted set v.kind) vs

-- Where a location is wanted, and what keeps what may define it: over the vertices of a program, by their numbers.
use Rattle.std.specs.Prelude.{◌≡◌, ℕ, ◌==◌, List, Bool, true, false, Option, Some, None, IsTrue}
use Rattle.bit_rows.specs.Sets.{has}
use Rattle.c_tree.specs.declared.program.Program.{Program}
use Rattle.c_language.specs.Code.{Code}
use Rattle.dep_model.specs.declared.edge.Edge.{Edge}
use Rattle.dep_model.specs.declared.location.Location.{Location}
use Rattle.dep_model.specs.declared.vertex.Slot.TheVariants.{Result, At}
use Rattle.dep_model.specs.declared.vertex.VertexKind.{VertexKind}
use Rattle.dep_model.specs.declared.vertex.VertexKind.TheVariants.{ActualIn, ActualOut}
use Rattle.dep_model.specs.Follows.{enters, start, Follows}
use Rattle.dep_model.specs.FunctionVertices.{vertices_at, tails, numbers, FollowsIn}
use Rattle.dep_model.specs.SystemGraph.{Analysis, vertices_of, places_at, IsFlowIn}
use Rattle.dep_model.specs.VertexOrder.{vertex_effects}
use Rattle.simulation.specs.Places.{Position, At as Stand, Behind, Storing}

module _ (p : Program) (a : Analysis) where
  -- what a vertex may define, may use and kills
  abbrev pub defines_at : ℕ → Location → Bool
  defines_at = places_at (vertex_effects p a.points).defines (vertices_of p a)

  abbrev pub uses_at : ℕ → Location → Bool
  uses_at = places_at (vertex_effects p a.points).uses (vertices_of p a)

  abbrev pub kills_at : ℕ → Location → Bool
  kills_at = places_at (vertex_effects p a.points).kills (vertices_of p a)

  -- w may be done directly after v in function f
  abbrev pub Next : ℕ → ℕ → Option ℕ → Type 0
  Next f v w = FollowsIn p (vertices_of p a) f v w

  -- a location is wanted at a vertex of function f: a chain of follows leads from it to a kept vertex that may use the location, and no
  -- vertex of the chain before that one kills it. At the end of f nothing is wanted
  pub data WantedAt (kept : List Bool) (f : ℕ) (l : Location) : Option ℕ → Type 0 where
    used : {v : ℕ} → IsTrue (has kept v) → uses_at v l ≡ true → WantedAt kept f l (Some v)
    before : {v : ℕ} {w : Option ℕ} → Next f v w → kills_at v l ≡ false → WantedAt kept f l w → WantedAt kept f l (Some v)

  -- a set has what may define a location that one of its vertices may use
  abbrev pub IsFlowClosed : List Bool → Type 0
  IsFlowClosed kept = (f : ℕ) (e : Edge) → IsFlowIn p a.points (vertices_of p a) f e → IsTrue (has kept e.to) → IsTrue (has kept e.from)

  -- ---- the vertex at which an activation stands

  -- the first formal-out of a function
  abbrev pub last_of : ℕ → Option ℕ
  last_of f = enters (tails (vertices_of p a) f) None

  -- where a list of a function is entered
  abbrev pub entered_at : ℕ → Code → Option ℕ
  entered_at f c = start (vertices_at (vertices_of p a) f) c (last_of f)

  -- the pairs of a list are pairs of the function
  abbrev pub IsPlaceOf : ℕ → Code → Type 0
  IsPlaceOf f c = (v : ℕ) (w : Option ℕ) → Follows (vertices_at (vertices_of p a) f) c (last_of f) v w → Next f v w

-- an actual-in of a statement's call
abbrev pub goes_in : ℕ → VertexKind → Bool
goes_in i (ActualIn j slot) = j == i
goes_in i _ = false

-- an actual-out of a statement's call: of a location, and of the result
abbrev pub comes_out : ℕ → VertexKind → Bool
comes_out i (ActualOut j (At k)) = j == i
comes_out i _ = false

abbrev pub gives_result : ℕ → VertexKind → Bool
gives_result i (ActualOut j Result) = j == i
gives_result i _ = false

module _ (p : Program) (a : Analysis) where
  abbrev pub results_of : ℕ → ℕ → List ℕ
  results_of f i = numbers (gives_result i) f (vertices_of p a)

  abbrev pub outs_of : ℕ → ℕ → List ℕ
  outs_of f i = numbers (comes_out i) f (vertices_of p a)

  -- an activation that waits for a call stands directly behind its actual-ins: before its actual-outs, of which that of the result comes
  -- last, and what it does after it
  abbrev pub function_of : Position → ℕ
  function_of (Stand f c) = f
  function_of (Behind f i g to r) = f
  function_of (Storing f i g to r) = f

  abbrev pub vertex_at : Position → Option ℕ
  vertex_at (Stand f c) = entered_at p a f c
  vertex_at (Behind f i g to r) = enters (outs_of f i) (enters (results_of f i) (entered_at p a f r))
  vertex_at (Storing f i g to r) = enters (results_of f i) (entered_at p a f r)

  -- a location is wanted where an activation stands
  abbrev pub IsWanted : List Bool → Location → Position → Type 0
  IsWanted kept l at = WantedAt p a kept (function_of at) l (vertex_at at)

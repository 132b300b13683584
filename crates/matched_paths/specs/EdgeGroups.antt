-- Edges in groups by a number.
use Rattle.std.specs.Prelude.{ℕ, ◌==◌, if◌then◌else◌, List, [], ◌∷◌, map, Option, Some, None, slice_index_or, slice_get}
use Rattle.std.specs.declared.vec.Vec.{Vec}
use Rattle.std.specs.declared.alloc.Global.{Global}
use Rattle.dep_model.specs.declared.edge.Edge.{Edge}
use Rattle.dep_model.specs.declared.edge.Label.{Label}
use Rattle.dep_model.specs.declared.edge.Label.TheVariants.{Control, Flow, Call, In, Out}
use Rattle.dep_model.specs.declared.vertex.Vertex.{Vertex}

-- the edge, where it is of group c
abbrev pub if_group : ℕ → ℕ → Edge → List Edge
if_group d c e = if d == c then e ∷ [] else []

-- the edges of a group, none where there is no such group
abbrev pub group_at : List (List Edge) → ℕ → List Edge
group_at groups c = slice_index_or groups c []

abbrev pub rows_of : Vec (Vec Edge Global) Global → List (List Edge)
rows_of rows = map (λ (r : Vec Edge Global). r.items) rows.items

abbrev pub grouped : Vec (Vec Edge Global) Global → ℕ → List Edge
grouped rows c = group_at (rows_of rows) c

abbrev pub leaves_by : Label → ℕ → Edge → List Edge
leaves_by Control c e = []
leaves_by Flow c e = []
leaves_by (Call d) c e = []
leaves_by (In d) c e = []
leaves_by (Out d) c e = if_group d c e

-- the edge, where it leaves call c
abbrev pub leaving : ℕ → Edge → List Edge
leaving c e = leaves_by e.label c e

abbrev pub starts_at : Option Vertex → ℕ → Edge → List Edge
starts_at None f e = []
starts_at (Some x) f e = if_group x.function f e

-- the edge, where it leads from a vertex of function f
abbrev pub starting : List Vertex → ℕ → Edge → List Edge
starting vs f e = starts_at (slice_get vs e.from) f e

-- the edge, where it leads to vertex v
abbrev pub ending : ℕ → Edge → List Edge
ending v e = if_group e.to v e

abbrev pub enters_by : Label → ℕ → Edge → List Edge
enters_by Control c e = []
enters_by Flow c e = []
enters_by (Call d) c e = []
enters_by (In d) c e = if_group d c e
enters_by (Out d) c e = []

-- the edge, where it leads from an actual-in of call c to its formal-in
abbrev pub entering : ℕ → Edge → List Edge
entering c e = enters_by e.label c e

abbrev pub calls_by : Label → List Vertex → ℕ → Edge → List Edge
calls_by Control vs h e = []
calls_by Flow vs h e = []
calls_by (Call c) vs h e = starts_at (slice_get vs e.to) h e
calls_by (In c) vs h e = []
calls_by (Out c) vs h e = []

-- the edge, where it leads from a call vertex to the entry of function h
abbrev pub calling : List Vertex → ℕ → Edge → List Edge
calling vs h e = calls_by e.label vs h e

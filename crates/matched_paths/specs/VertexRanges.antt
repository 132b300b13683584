-- The vertices of one function, which stand one after another.
use Rattle.std.specs.Prelude.{◌≡◌, ◌≢◌, ◌↔◌, ℕ, ◌<◌, ◌≤◌, ◌&&◌, ◌==◌, nat_lt, not, Bool, false, List, Some, slice_get}
use Rattle.std.specs.Option.{option_map_or}
use Rattle.dep_model.specs.declared.vertex.Vertex.{Vertex}
use Rattle.dep_model.specs.Facts.{IsIn}
use Rattle.matched_paths.specs.declared.vertex_range.VertexRange.{VertexRange}

-- whether a vertex is one of a range
abbrev pub within : VertexRange → ℕ → Bool
within s v = not (nat_lt v s.first) && nat_lt v s.last

-- whether there is such a vertex, of the function
abbrev pub is_of : List Vertex → ℕ → ℕ → Bool
is_of vs v f = option_map_or (λ (x : Vertex). x.function == f) (slice_get vs v) false

-- no vertex before the place is of a function of which one at it or behind it is
abbrev pub AreApartAt : List Vertex → ℕ → Type 0
AreApartAt vs k = (u v : ℕ) (x y : Vertex) → u < k → k ≤ v → slice_get vs u ≡ Some x → slice_get vs v ≡ Some y → x.function ≢ y.function

-- the range has all vertices of one function, and no others
pub record IsWholeFunction (vs : List Vertex) (s : VertexRange) : Type 0 where
  pub function : ℕ
  pub all : (v : ℕ) → IsIn vs function v ↔ ((s.first ≤ v) × (v < s.last))

-- a vertex is one of a range
abbrev pub IsInRange : VertexRange → ℕ → Type 0
IsInRange s v = (s.first ≤ v) × (v < s.last)

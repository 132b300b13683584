-- Vertices that stand function by function, and the stretch of those of one function.
use Rattle.std.specs.Prelude.{◌↔◌, ℕ, ◌+◌, ◌<◌, ◌≤◌, List, length}
use Rattle.std.specs.List.Sorted.{IsNonDecreasingBy}
use Rattle.dep_model.specs.declared.stretch.Stretch.{Stretch}
use Rattle.dep_model.specs.declared.vertex.Vertex.{Vertex}
use Rattle.dep_model.specs.Facts.{IsIn}

-- the vertices stand function by function, and the numbers of their functions ascend
abbrev pub AreByFunction : List Vertex → Type 0
AreByFunction vs = IsNonDecreasingBy (λ (v : Vertex). v.function) vs

-- vertex number v is one of a stretch
abbrev pub IsWithin : Stretch → ℕ → Type 0
IsWithin s v = (s.first ≤ v) × (v < s.first + s.size)

-- the stretch has all vertices of the function, and no others
pub record IsStretchOf (vs : List Vertex) (f : ℕ) (s : Stretch) : Type 0 where
  pub inside : s.first + s.size ≤ length vs
  pub all : (v : ℕ) → IsIn vs f v ↔ IsWithin s v

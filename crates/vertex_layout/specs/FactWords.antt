-- How many words the facts of a program's graph take, vertex by vertex.
use Rattle.std.specs.Prelude.{◌≡◌, ℕ, ◌/◌, ◌+◌, List, length, Bool, if◌then◌else◌, slice_index_or}
use Rattle.dep_model.specs.declared.vertex.Vertex.{Vertex}
use Rattle.dep_model.specs.FunctionVertices.{is_formal_in, is_formal_out, numbers}

abbrev pub count_at : List ℕ → ℕ → ℕ
count_at counts f = slice_index_or counts f 0

abbrev pub one_if : Bool → ℕ
one_if b = if b then 1 else 0

-- how many formal-ins each function has
pub record AreCounts (vs : List Vertex) (counts : List ℕ) : Type 0 where
  pub each : (f : ℕ) → count_at counts f ≡ length (numbers is_formal_in f vs)

-- the words of a vertex, where functions have so many formal-ins
abbrev pub vertex_words : List ℕ → Vertex → ℕ
vertex_words counts x = if is_formal_out x.kind then (count_at counts x.function + 63) / 64 else 0

-- The vertices of a graph, listed by the function or the statement that they belong to.
use Rattle.std.specs.Prelude.{◌≡◌, ℕ, ◌==◌, Bool, false, if◌then◌else◌, Option, Some, None, List, [], ◌∷◌, map, slice_index_or}
use Rattle.std.specs.Option.{option_map_or}
use Rattle.std.specs.declared.vec.Vec.{Vec}
use Rattle.std.specs.declared.alloc.Global.{Global}
use Rattle.dep_model.specs.declared.vertex.Vertex.{Vertex}
use Rattle.dep_model.specs.declared.vertex.VertexKind.{VertexKind}
use Rattle.dep_model.specs.declared.vertex.VertexKind.TheVariants.{Entry, FormalIn, FormalOut, Call, ActualIn, ActualOut}
use Rattle.dep_model.specs.FunctionVertices.{numbers_from}
use Rattle.sdg.specs.declared.vertex_lists.Grouping.{Grouping}
use Rattle.sdg.specs.declared.vertex_lists.Grouping.TheVariants.{Entries, FormalIns, FormalOuts, Calls}

-- a call statement's vertices belong to it, and an entry or a formal to its function
abbrev pub key_in : Grouping → ℕ → VertexKind → Option ℕ
key_in Entries f Entry = Some f
key_in FormalIns f (FormalIn slot) = Some f
key_in FormalOuts f (FormalOut slot) = Some f
key_in Calls f (Call i) = Some i
key_in Calls f (ActualIn i slot) = Some i
key_in Calls f (ActualOut i slot) = Some i
key_in g f k = None

abbrev pub key_of : Grouping → Vertex → Option ℕ
key_of g v = key_in g v.function v.kind

abbrev pub has_key : Grouping → ℕ → Vertex → Bool
has_key g k v = option_map_or (λ j. j == k) (key_of g v) false

-- the number of a vertex that belongs to k
abbrev pub if_key : Grouping → ℕ → ℕ → Vertex → List ℕ
if_key g k n v = if has_key g k v then n ∷ [] else []

abbrev pub if_same : ℕ → ℕ → ℕ → List ℕ
if_same j k n = if j == k then n ∷ [] else []

-- the list of k, which is empty where there is none
abbrev pub list_at : List (List ℕ) → ℕ → List ℕ
list_at t k = slice_index_or t k []

abbrev pub lists_of : Vec (Vec ℕ Global) Global → List (List ℕ)
lists_of t = map (λ (r : Vec ℕ Global). r.items) t.items

-- each list has the numbers of its vertices, ascending
abbrev pub AreVertexLists : Grouping → List Vertex → List (List ℕ) → Type 0
AreVertexLists g vs t = (k : ℕ) → list_at t k ≡ numbers_from (has_key g k) 0 vs

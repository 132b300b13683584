-- The vertices of a function by what they belong to.
use Rattle.std.specs.Prelude.{ℕ, ◌==◌, Bool, true, false, ◌||◌, if◌then◌else◌, List, [], ◌∷◌, ◌++◌, map, replicate, slice_index_or}
use Rattle.std.specs.declared.vec.Vec.{Vec}
use Rattle.std.specs.declared.alloc.Global.{Global}
use Rattle.dep_model.specs.declared.vertex.VertexKind.{VertexKind}
use Rattle.dep_model.specs.declared.groups.Group.{Group}
use Rattle.dep_model.specs.declared.groups.Group.TheVariants as group
use Rattle.dep_model.specs.FunctionVertices.{is_own, is_actual, is_entry, is_formal_in, is_formal_out}

-- a vertex of the statement, with its actuals or without
abbrev pub is_at : Bool → ℕ → VertexKind → Bool
is_at true i k = is_own i k || is_actual i k
is_at false i k = is_own i k

abbrev pub in_group : Group → VertexKind → Bool
in_group group.Entry k = is_entry k
in_group group.FormalIns k = is_formal_in k
in_group group.FormalOuts k = is_formal_out k

-- the number of a vertex whose kind passes
abbrev pub if_is : (VertexKind → Bool) → ℕ → VertexKind → List ℕ
if_is test n k = if test k then n ∷ [] else []

abbrev pub if_same : ℕ → ℕ → ℕ → List ℕ
if_same i j n = if i == j then n ∷ [] else []

-- the row of a statement, which is empty where there is none
abbrev pub row : List (List ℕ) → ℕ → List ℕ
row t i = slice_index_or t i []

abbrev pub rows_of : Vec (Vec ℕ Global) Global → List (List ℕ)
rows_of t = map (λ (r : Vec ℕ Global). r.items) t.items

-- the rows of all statements, where the first of these is that of a statement, and those before it are empty
abbrev pub rows_from : ℕ → Vec (Vec ℕ Global) Global → List (List ℕ)
rows_from first t = replicate first [] ++ rows_of t

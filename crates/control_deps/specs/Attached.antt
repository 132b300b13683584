-- The control edges of formals and actuals, as pairs: a formal has the entry, and an actual its call.
use Rattle.std.specs.Prelude.{ℕ, suc, ◌==◌, if◌then◌else◌, List, [], ◌∷◌, ◌++◌}
use Rattle.dep_model.specs.declared.skeleton.Pair.{Pair}
use Rattle.dep_model.specs.declared.vertex.Vertex.{Vertex}
use Rattle.dep_model.specs.declared.vertex.VertexKind.{VertexKind}
use Rattle.dep_model.specs.declared.vertex.VertexKind.TheVariants.{Entry, FormalIn, FormalOut, Statement, Call, ActualIn, ActualOut}
use Rattle.control_deps.specs.Walk.{from_all}

-- the vertices that a vertex hangs on, where `own` has those of each statement
abbrev pub controllers_of : List ℕ → (ℕ → List ℕ) → VertexKind → List ℕ
controllers_of entry own Entry = []
controllers_of entry own (FormalIn slot) = entry
controllers_of entry own (FormalOut slot) = entry
controllers_of entry own (Statement i) = []
controllers_of entry own (Call i) = []
controllers_of entry own (ActualIn i slot) = own i
controllers_of entry own (ActualOut i slot) = own i

abbrev pub controllers : List ℕ → (ℕ → List ℕ) → ℕ → Vertex → List ℕ
controllers entry own f v = if v.function == f then controllers_of entry own v.kind else []

-- the pairs of each vertex with those it hangs on; the first has the number n
abbrev pub attached_from : (Vertex → List ℕ) → ℕ → List Vertex → List Pair
attached_from controllers n [] = []
attached_from controllers n (v ∷ vs) = from_all (controllers v) n ++ attached_from controllers (suc n) vs

-- Edges in ascending order: by where they lead from, then by where they lead to, then by their labels, of which those of calls go by
-- the call's vertex.
use Rattle.std.specs.Prelude.{◌≡◌, ◌<◌, ℕ, ◌⊎◌, List, [], ◌∷◌}
use Rattle.std.specs.List.{AllPairs}
use Rattle.dep_model.specs.declared.edge.Edge.{Edge}
use Rattle.dep_model.specs.declared.edge.Label.{Label}
use Rattle.dep_model.specs.declared.edge.Label.TheVariants.{Control, Flow, Call, In, Out}

-- a label as numbers: its kind, and its call
abbrev pub label_keys : Label → List ℕ
label_keys Control = 0 ∷ []
label_keys Flow = 1 ∷ []
label_keys (Call c) = 2 ∷ c ∷ []
label_keys (In c) = 3 ∷ c ∷ []
label_keys (Out c) = 4 ∷ c ∷ []

abbrev pub edge_keys : Edge → List ℕ
edge_keys e = e.from ∷ e.to ∷ label_keys e.label

-- the first number in which two lists differ is less in the first list
abbrev pub IsLess : List ℕ → List ℕ → Type 0
IsLess [] ys = ⊥
IsLess (x ∷ xs) [] = ⊥
IsLess (x ∷ xs) (y ∷ ys) = (x < y) ⊎ ((x ≡ y) × IsLess xs ys)

abbrev pub IsBefore : Edge → Edge → Type 0
IsBefore e f = IsLess (edge_keys e) (edge_keys f)

-- each edge is before those behind it, so that none stands twice
abbrev pub AreAscendingEdges : List Edge → Type 0
AreAscendingEdges = AllPairs IsBefore

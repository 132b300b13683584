-- Rows of items by number.
use Rattle.std.specs.Prelude.{ℕ, ◌==◌, if◌then◌else◌, List, [], ◌∷◌, map, slice_index_or}
use Rattle.std.specs.declared.vec.Vec.{Vec}
use Rattle.std.specs.declared.alloc.Global.{Global}

-- the row of a number, which is empty where there is none
abbrev pub row : {A : Type 0} → List (Vec A Global) → ℕ → List A
row {A} rows i = slice_index_or (map (λ (r : Vec A Global). r.items) rows) i []

-- the item, in the row of its number
abbrev pub if_same : {A : Type 0} → ℕ → ℕ → A → List A
if_same i at item = if at == i then item ∷ [] else []

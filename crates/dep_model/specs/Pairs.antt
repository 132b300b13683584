-- Pairs of vertices, by their numbers.
use Rattle.std.specs.Prelude.{ℕ, List}
use Rattle.dep_model.specs.declared.skeleton.Pair.{Pair}
use Rattle.dep_model.specs.declared.vertex.Vertex.{Vertex}
use Rattle.dep_model.specs.Facts.{IsIn}

abbrev pub pair : ℕ → ℕ → Pair
pair from to = record { from = from; to = to }

-- both ends of a pair are vertices of the function
pub record IsPairIn (vs : List Vertex) (f : ℕ) (x : Pair) : Type 0 where
  pub from_in : IsIn vs f x.from
  pub to_in : IsIn vs f x.to

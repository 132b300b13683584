-- How many vertices a graph may have, and how many words its facts may take.
use Rattle.std.specs.Prelude.{◌≤◌, ◌<◌, List, length}
use Rattle.c_tree.specs.declared.limits.LimitName.{LimitName}
use Rattle.c_tree.specs.declared.limits.LimitName.TheVariants as limit
use Rattle.dep_model.specs.declared.vertex.Vertex.{Vertex}
use Rattle.dep_model.specs.Graphs.{fact_words}

-- both are within their numbers
pub record IsWithin (vs : List Vertex) : Type 0 where
  pub few : length vs ≤ 65536
  pub few_words : fact_words vs ≤ 262144

-- one of them is above its number; the words are told where the vertices are within theirs
pub data IsBeyond (vs : List Vertex) : LimitName → Type 0 where
  vertices : 65536 < length vs → IsBeyond vs limit.Vertices
  words : length vs ≤ 65536 → 262144 < fact_words vs → IsBeyond vs limit.FactWords

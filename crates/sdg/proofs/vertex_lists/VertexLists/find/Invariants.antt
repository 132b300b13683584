use Rattle.std.proofs.Common.{◌≡◌, ℕ, ◌++◌, drop}
use Rattle.dep_model.specs.FunctionVertices.{numbers_from}
use Rattle.sdg.specs.VertexLists.{has_key, list_at, lists_of}
use Rattle.sdg.proofs.vertex_lists.VertexLists.find.Given as goal

abbrev pub invariant-loop-vertex : goal.invariant-loop-vertex
invariant-loop-vertex l = record {
  lists_are : (k : ℕ) → list_at (lists_of l.lists) k ++ numbers_from (has_key l.grouping k) l.number (drop l.vertex-index l.vertices) ≡ numbers_from (has_key l.grouping k) 0 l.vertices;
  number_is : l.number ≡ l.vertex-index;
}

use Rattle.std.proofs.Common.{◌≡◌, ℕ, ◌≤◌, ◌<◌, true, take}
use Rattle.dep_model.specs.declared.vertex.Vertex.{Vertex}
use Rattle.dep_model.specs.FunctionVertices.{is_own}
use Rattle.kept_numbers.specs.Ranks.{rank}
use Rattle.projection.specs.KeptVertices.{holds}
use Rattle.projection.proofs.numbering.rank_in_order.Given as goal

abbrev pub invariant-loop-number : goal.invariant-loop-number
invariant-loop-number l = record {
  below_is : l.below ≡ rank (λ i. holds l.kept (λ (v : Vertex). is_own i v.kind) 0 (take l.number l.vertices)) l.id;
  small : l.below ≤ l.number;
  ordered : (i : ℕ) → holds l.kept (λ (v : Vertex). is_own i v.kind) 0 (take l.number l.vertices) ≡ true → i < l.next;
}

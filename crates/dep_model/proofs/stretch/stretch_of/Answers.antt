use Rattle.std.proofs.Common.{ℕ, leb, ltb, rules}
use Rattle.std.proofs.lemmas.List.Sorted.{IsPartitionPoint-from_clause, IsPartitionedBy-leb, IsPartitionedBy-ltb}
use Rattle.dep_model.specs.declared.vertex.Vertex.{Vertex}
use Rattle.dep_model.proofs.Stretching.{in_turn, stretch_found}
use Rattle.dep_model.proofs.stretch.stretch_of.Goals as goal

pub overflow_sub-result : goal.overflow_sub-result
overflow_sub-result c =
    let of : Vertex → ℕ = λ v. v.function in
    let lower = IsPartitionPoint-from_clause (λ v. ltb v.function c.args.function) _ _ c.partition_point-first.ensures.partitioned (IsPartitionedBy-ltb of c.args.vertices.now c.args.function c.requires.by_function) (λ a r q k. search rules) in
    let higher = IsPartitionPoint-from_clause (λ v. leb v.function c.args.function) _ _ c.partition_point-last.ensures.partitioned (IsPartitionedBy-leb of c.args.vertices.now c.args.function c.requires.by_function) (λ a r q k. search rules) in
    in_turn c.args.vertices.now c.args.function c.partition_point-first.result c.partition_point-last.result c.partition_point-first.ensures.bound c.partition_point-last.ensures.bound lower higher

pub returns : goal.returns
returns c =
    let of : Vertex → ℕ = λ v. v.function in
    let lower = IsPartitionPoint-from_clause (λ v. ltb v.function c.args.function) _ _ c.partition_point-first.ensures.partitioned (IsPartitionedBy-ltb of c.args.vertices.now c.args.function c.requires.by_function) (λ a r q k. search rules) in
    let higher = IsPartitionPoint-from_clause (λ v. leb v.function c.args.function) _ _ c.partition_point-last.ensures.partitioned (IsPartitionedBy-leb of c.args.vertices.now c.args.function c.requires.by_function) (λ a r q k. search rules) in
    stretch_found c.args.vertices.now c.args.function c.partition_point-first.result c.partition_point-last.result c.partition_point-first.ensures.bound c.partition_point-last.ensures.bound lower higher

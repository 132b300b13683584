use Rattle.std.proofs.Common.{ltb, rules}
use Rattle.std.proofs.lemmas.List.Sorted.{IsPartitionPoint-from_clause, IsPartitionedBy-ltb}
use Rattle.dep_model.specs.declared.graph.OutRow.{OutRow}
use Rattle.std.proofs.Common.{ℕ}
use Rattle.summary_edges.proofs.PartLaws.{rows_before_are}
use Rattle.summary_edges.proofs.function_parts.rows_before.Goals as goal

pub returns-clause-before : goal.returns-clause-before
returns-clause-before c =
    let of : OutRow → ℕ = λ r. r.vertex in
    let lower = IsPartitionPoint-from_clause (λ r. ltb r.vertex c.args.vertex) _ _ c.partition_point.ensures.partitioned (IsPartitionedBy-ltb of c.args.outs.now c.args.vertex c.requires.ascending) (λ a r q k. search rules) in
    rows_before_are c.args.outs.now c.args.vertex c.partition_point.result c.partition_point.ensures.bound lower

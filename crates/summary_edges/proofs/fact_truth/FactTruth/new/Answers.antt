use Rattle.std.proofs.Common.{◌≡◌, Some, None}
use Rattle.matched_paths.proofs.RowPlaces.{one_fact}
use Rattle.summary_edges.proofs.fact_truth.FactTruth.new.Goals as goal

pub invariant_of-result-clause-apart : goal.invariant_of-result-clause-apart
invariant_of-result-clause-apart c = one_fact c.args.graph.now c.requires.shaped.rows_are

pub returns-clause-ready : goal.returns-clause-ready
returns-clause-ready c = record { shaped = c.requires.shaped; index = λ x e. let f : None ≡ Some x = e in absurd cc }

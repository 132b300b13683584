use Rattle.std.proofs.Common.{◌≡◌, subst}
use Rattle.std.proofs.lemmas.Option.{same_Some}
use Rattle.matched_paths.proofs.RowPlaces.{one_fact}
use Rattle.summary_edges.specs.FactIndexes.{IsIndex}
use Rattle.summary_edges.proofs.fact_truth.FactTruth.with_index.Goals as goal

pub invariant_of-result-clause-apart : goal.invariant_of-result-clause-apart
invariant_of-result-clause-apart c = one_fact c.args.graph.now c.requires.index.shaped.rows_are

pub returns-clause-ready : goal.returns-clause-ready
returns-clause-ready c = record { shaped = c.requires.index.shaped; index = λ x e. let same : c.args.index ≡ x = same_Some _ _ e in subst (λ y. IsIndex c.args.graph.now y.now) same c.requires.index }

use Rattle.summary_edges.proofs.FactMachineLaws.{facts_never_shrink}
use Rattle.summary_edges.proofs.laws.facts_never_shrink.Goals as goal

pub returns : goal.returns
returns c = facts_never_shrink

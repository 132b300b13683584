use Rattle.summary_edges.proofs.FactMachineLaws.{facts_stay_true}
use Rattle.summary_edges.proofs.laws.facts_stay_true.Goals as goal

pub returns : goal.returns
returns c = facts_stay_true

use Rattle.summary_edges.proofs.FactMachineLaws.{whole_rounds_are_exact}
use Rattle.summary_edges.proofs.laws.whole_rounds_are_exact.Goals as goal

pub returns : goal.returns
returns c = whole_rounds_are_exact

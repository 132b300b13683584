use Rattle.summary_edges.proofs.FactMachineLaws.{series_are_few}
use Rattle.summary_edges.proofs.laws.series_are_few.Goals as goal

pub returns : goal.returns
returns c = series_are_few

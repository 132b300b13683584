use Rattle.listed_graphs.proofs.Graphs.{analysis_there}
use Rattle.listed_graphs.proofs.programs_have_an_analysis.Goals as goal

pub returns : goal.returns
returns c = analysis_there

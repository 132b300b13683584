use Rattle.dep_model.proofs.OneAnalysis.{has_analysis}
use Rattle.dep_model.proofs.laws.programs_have_one_analysis.Goals as goal

pub returns : goal.returns
returns c = has_analysis

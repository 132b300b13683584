use Rattle.c_meaning.proofs.MeaningSteps as steps
use Rattle.c_meaning.proofs.laws.ends_stay.Goals as goal

pub returns : goal.returns
returns c = steps.ends_stay

use Rattle.c_meaning.proofs.MeaningSteps as steps
use Rattle.c_meaning.proofs.laws.meaning_is_steps.Goals as goal

pub returns : goal.returns
returns c = steps.meaning_is_steps

use Rattle.c_meaning.proofs.MeaningSteps as steps
use Rattle.c_meaning.proofs.laws.traces_grow.Goals as goal

pub returns : goal.returns
returns c = steps.traces_grow

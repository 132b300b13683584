use Rattle.run_facts.proofs.FittingRuns as lemmas
use Rattle.run_facts.proofs.types_always_fit.Goals as goal

pub returns : goal.returns
returns c = lemmas.types_always_fit

use Rattle.simulation_steps.proofs.ActPremises as lemmas
use Rattle.simulation_steps.proofs.callers_are_left.Goals as goal

pub returns : goal.returns
returns c = lemmas.callers_are_left

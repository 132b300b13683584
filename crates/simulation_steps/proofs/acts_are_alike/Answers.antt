use Rattle.simulation_steps.proofs.ActPremises as lemmas
use Rattle.simulation_steps.proofs.acts_are_alike.Goals as goal

pub returns : goal.returns
returns c = lemmas.acts_are_alike

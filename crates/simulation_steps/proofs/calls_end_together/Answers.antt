use Rattle.simulation_steps.proofs.CallPremises as lemmas
use Rattle.simulation_steps.proofs.calls_end_together.Goals as goal

pub returns : goal.returns
returns c = lemmas.calls_end_together

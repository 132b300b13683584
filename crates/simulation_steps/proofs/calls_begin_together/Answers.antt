use Rattle.simulation_steps.proofs.CallPremises as lemmas
use Rattle.simulation_steps.proofs.calls_begin_together.Goals as goal

pub returns : goal.returns
returns c = lemmas.calls_begin_together

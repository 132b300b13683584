use Rattle.simulation_locations.proofs.closed_sets_keep_calls.Goals as goal
use Rattle.simulation_locations.proofs.KeptCalls.{keeps_call}

pub returns : goal.returns
returns c = λ p a edges kept f i g to args sound are closed m. keeps_call p a edges kept f i g to args sound are closed m

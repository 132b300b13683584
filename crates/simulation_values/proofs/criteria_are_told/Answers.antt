use Rattle.simulation_values.proofs.HoldingCalls.{calls_reached}
use Rattle.simulation_values.proofs.Tellings.{telling}
use Rattle.simulation_values.proofs.criteria_are_told.Goals as goal

pub returns : goal.returns
returns c = λ pair edges are reached stand. telling calls_reached pair edges are reached stand

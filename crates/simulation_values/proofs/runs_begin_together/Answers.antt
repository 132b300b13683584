use Rattle.std.proofs.Common.{◌≡◌, true}
use Rattle.simulation_values.proofs.Openings.{beginning_together}
use Rattle.simulation_values.proofs.runs_begin_together.Goals as goal

pub returns : goal.returns
returns c = λ pair holds. beginning_together pair (λ f. holds f ≡ true)

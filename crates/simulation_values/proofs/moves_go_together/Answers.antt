use Rattle.std.proofs.Common.{◌≡◌, true}
use Rattle.simulation_values.proofs.Moves.{moving}
use Rattle.simulation_values.proofs.moves_go_together.Goals as goal

pub returns : goal.returns
returns c = λ pair holds. moving pair (λ f. holds f ≡ true)

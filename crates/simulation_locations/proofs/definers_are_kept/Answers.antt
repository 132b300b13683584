use Rattle.simulation_locations.proofs.definers_are_kept.Goals as goal
use Rattle.simulation_locations.proofs.Chains.{definer_kept}

pub returns : goal.returns
returns c = λ p a kept f v w l closed pair defined h. definer_kept p a kept f l closed v w pair defined h

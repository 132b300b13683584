use Rattle.simulation_locations.proofs.formal_ins_are_kept.Goals as goal
use Rattle.simulation_locations.proofs.Formals.{formal_in_kept}

pub returns : goal.returns
returns c = λ p a kept f l closed h t. formal_in_kept p a kept f l closed h t

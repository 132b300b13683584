use Rattle.simulation_locations.proofs.chains_keep_rules.Goals as goal
use Rattle.std.proofs.Common.{◌≡◌, true}
use Rattle.simulation_locations.proofs.ChainedRules.{wanting}

pub returns : goal.returns
returns c = λ p a kept c holds sound. wanting p a kept c (λ f. holds f ≡ true) sound

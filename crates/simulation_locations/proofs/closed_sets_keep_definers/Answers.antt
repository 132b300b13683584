use Rattle.std.proofs.Common.{◌≡◌, true}
use Rattle.simulation_locations.proofs.ChainedClosing.{closing}
use Rattle.simulation_locations.proofs.closed_sets_keep_definers.Goals as goal

pub returns : goal.returns
returns c = λ p a edges kept q holds sound is_analysis are closed. closing p a edges kept q (λ f. holds f ≡ true) sound is_analysis are closed

use Rattle.thinned_syntax.proofs.WellFormed.{thinned_well_formed}
use Rattle.thinned_syntax.proofs.thinned_is_well_formed.Goals as goal

pub returns : goal.returns
returns c = λ k raw p h has within closed. thinned_well_formed k raw p h has within closed

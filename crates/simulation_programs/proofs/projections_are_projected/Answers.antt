use Rattle.simulation_programs.proofs.LikePrograms.{projected}
use Rattle.simulation_programs.proofs.projections_are_projected.Goals as goal

pub returns : goal.returns
returns c = λ p q a edges kept ok are able same. projected p q a edges kept ok are able same

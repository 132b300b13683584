use Rattle.slice_engine.proofs.Projections.{projected_well_formed}
use Rattle.slice_engine.proofs.laws.projection_is_well_formed.Goals as goal

pub returns : goal.returns
returns c = projected_well_formed

use Rattle.slice_engine.proofs.Projections.{projected_values}
use Rattle.slice_engine.proofs.laws.projection_has_same_values.Goals as goal

pub returns : goal.returns
returns c = projected_values

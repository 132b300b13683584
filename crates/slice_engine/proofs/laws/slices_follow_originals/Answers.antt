use Rattle.slice_engine.proofs.Projections.{projected_follows}
use Rattle.slice_engine.proofs.laws.slices_follow_originals.Goals as goal

pub returns : goal.returns
returns c = projected_follows

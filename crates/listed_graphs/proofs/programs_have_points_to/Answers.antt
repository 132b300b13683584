use Rattle.listed_graphs.proofs.PointsTo.{has_points_to}
use Rattle.listed_graphs.proofs.programs_have_points_to.Goals as goal

pub returns : goal.returns
returns c = has_points_to

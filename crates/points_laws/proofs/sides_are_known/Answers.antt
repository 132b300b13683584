use Rattle.points_laws.proofs.KnownSides.{sides_known}
use Rattle.points_laws.proofs.sides_are_known.Goals as goal

pub returns : goal.returns
returns c = sides_known

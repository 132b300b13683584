use Rattle.listed_graphs.proofs.SetsThere.{sets_reached}
use Rattle.listed_graphs.proofs.sets_are_reached.Goals as goal

pub returns : goal.returns
returns c = sets_reached

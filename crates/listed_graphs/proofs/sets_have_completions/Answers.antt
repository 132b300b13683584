use Rattle.listed_graphs.proofs.SetsThere.{sets_completed}
use Rattle.listed_graphs.proofs.sets_have_completions.Goals as goal

pub returns : goal.returns
returns c = sets_completed

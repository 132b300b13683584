use Rattle.control_nesting.proofs.WellFormedSets.{entries_reach}
use Rattle.control_nesting.proofs.entries_reach_all.Goals as goal

pub returns : goal.returns
returns c = entries_reach

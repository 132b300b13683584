use Rattle.control_nesting.proofs.WellFormedSets.{closed_keeps_main}
use Rattle.control_nesting.proofs.closed_keeps_main.Goals as goal

pub returns : goal.returns
returns c = closed_keeps_main

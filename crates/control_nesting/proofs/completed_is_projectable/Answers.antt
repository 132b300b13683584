use Rattle.control_nesting.proofs.WellFormedSets.{completed_is_projectable}
use Rattle.control_nesting.proofs.completed_is_projectable.Goals as goal

pub returns : goal.returns
returns c = completed_is_projectable

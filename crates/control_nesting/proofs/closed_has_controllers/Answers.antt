use Rattle.control_nesting.proofs.WellFormedSets.{closed_has_controllers}
use Rattle.control_nesting.proofs.closed_has_controllers.Goals as goal

pub returns : goal.returns
returns c = closed_has_controllers

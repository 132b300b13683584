use Rattle.control_nesting.proofs.WellFormedSets.{closed_is_nested}
use Rattle.control_nesting.proofs.closed_is_nested.Goals as goal

pub returns : goal.returns
returns c = closed_is_nested

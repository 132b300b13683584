use Rattle.control_nesting.proofs.WellFormedSets.{closed_has_entry}
use Rattle.control_nesting.proofs.closed_holds_entries.Goals as goal

pub returns : goal.returns
returns c = closed_has_entry

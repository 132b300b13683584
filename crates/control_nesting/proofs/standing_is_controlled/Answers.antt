use Rattle.control_nesting.proofs.WellFormedSets.{standing_is_controlled}
use Rattle.control_nesting.proofs.standing_is_controlled.Goals as goal

pub returns : goal.returns
returns c = standing_is_controlled

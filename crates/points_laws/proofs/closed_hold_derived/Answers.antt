use Rattle.points_laws.proofs.Leastness.{closed_hold}
use Rattle.points_laws.proofs.closed_hold_derived.Goals as goal

pub returns : goal.returns
returns c = closed_hold

use Rattle.points_laws.proofs.Leastness.{uses_derived}
use Rattle.points_laws.proofs.uses_are_derived.Goals as goal

pub returns : goal.returns
returns c = uses_derived

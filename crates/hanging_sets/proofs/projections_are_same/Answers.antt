use Rattle.hanging_sets.proofs.SameProjections.{projections_same}
use Rattle.hanging_sets.proofs.projections_are_same.Goals as goal

pub returns : goal.returns
returns c = λ p q vs set same. projections_same p q vs set same

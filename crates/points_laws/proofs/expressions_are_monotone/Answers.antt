use Rattle.points_laws.proofs.Monotone.{expression_monotone}
use Rattle.points_laws.proofs.expressions_are_monotone.Goals as goal

pub returns : goal.returns
returns c = expression_monotone

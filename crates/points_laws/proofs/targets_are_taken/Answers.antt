use Rattle.points_laws.proofs.TakenTargets.{targets_taken}
use Rattle.points_laws.proofs.targets_are_taken.Goals as goal

pub returns : goal.returns
returns c = λ p l m globals h. targets_taken p globals l m h

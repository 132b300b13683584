use Rattle.crew.proofs.BoardLaws.{events_keep_truth}
use Rattle.crew.proofs.laws.events_keep_truth.Goals as goal

pub returns : goal.returns
returns g c = events_keep_truth g.T.Truth.is_true g.T.Truth.may_put g.T.Truth.sound

use Rattle.points_laws.proofs.ListedPairs.{pairs_listed}
use Rattle.points_laws.proofs.pairs_are_listed.Goals as goal

pub returns : goal.returns
returns c = λ p l m known h. pairs_listed p known l m h

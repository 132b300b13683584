use Rattle.matched_paths.specs.Laws.{Passing}
use Rattle.matched_paths.proofs.FactLaws.{settled_has_all_true}
use Rattle.matched_paths.proofs.laws.settled_has_all.Goals as goal

pub returns : goal.returns
returns c = λ g test shaped settled. settled_has_all_true g (Passing test) shaped settled

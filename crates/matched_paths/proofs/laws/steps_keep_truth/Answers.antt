use Rattle.matched_paths.specs.Laws.{Passing}
use Rattle.matched_paths.proofs.FactLaws.{step_keeps_truth}
use Rattle.matched_paths.proofs.laws.steps_keep_truth.Goals as goal

pub returns : goal.returns
returns c = λ g f test true. step_keeps_truth g f (Passing test) true

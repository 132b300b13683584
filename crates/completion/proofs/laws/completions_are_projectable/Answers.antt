use Rattle.completion.proofs.Projectable.{all_projectable}
use Rattle.completion.proofs.laws.completions_are_projectable.Goals as goal

pub returns : goal.returns
returns c = λ p g set reached kept graph shaped reach completes. all_projectable p g set reached kept graph shaped reach completes

use Rattle.thinned_syntax.proofs.WellFormed.{thinned_tree}
use Rattle.thinned_syntax.proofs.thinned_is_tree.Goals as goal

pub returns : goal.returns
returns c = λ k raw tree closed. thinned_tree k raw tree closed

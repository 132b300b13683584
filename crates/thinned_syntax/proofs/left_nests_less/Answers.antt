use Rattle.thinned_syntax.proofs.LeftNests.{items_nest}
use Rattle.thinned_syntax.proofs.left_nests_less.Goals as goal

pub returns : goal.returns
returns c = λ raw some left. items_nest left

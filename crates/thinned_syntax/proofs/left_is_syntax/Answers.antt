use Rattle.thinned_syntax.proofs.LeftSyntax.{items_left}
use Rattle.thinned_syntax.proofs.left_is_syntax.Goals as goal

pub returns : goal.returns
returns c = λ raw some left h. items_left left h

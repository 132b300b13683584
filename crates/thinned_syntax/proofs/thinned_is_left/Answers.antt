use Rattle.thinned_syntax.proofs.ThinnedTexts.{text_is_left}
use Rattle.thinned_syntax.proofs.thinned_is_left.Goals as goal

pub returns : goal.returns
returns c = λ k raw closed. text_is_left k raw closed

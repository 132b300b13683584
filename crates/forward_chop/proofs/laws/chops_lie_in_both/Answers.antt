use Rattle.forward_chop.proofs.ContextLaws.{lies_in_both}
use Rattle.forward_chop.proofs.laws.chops_lie_in_both.Goals as goal

pub returns : goal.returns
returns c = lies_in_both

use Rattle.forward_chop.proofs.ContextLaws.{by_contexts}
use Rattle.forward_chop.proofs.laws.chops_are_by_contexts.Goals as goal

pub returns : goal.returns
returns c = by_contexts

use Rattle.kept_texts.proofs.WellFormedProjections.{own_parts}
use Rattle.kept_texts.proofs.functions_have_own_parts.Goals as goal

pub returns : goal.returns
returns c = λ p ok. own_parts p ok

use Rattle.kept_texts.proofs.WellFormedProjections.{projection_clear}
use Rattle.kept_texts.proofs.projection_is_clear.Goals as goal

pub returns : goal.returns
returns c = λ p a edges set ok are able. projection_clear p a edges set ok are able

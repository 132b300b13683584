use Rattle.kept_texts.proofs.WellFormedProjections.{projectable_hangs}
use Rattle.kept_texts.proofs.projectable_hangs.Goals as goal

pub returns : goal.returns
returns c = λ p a edges set ok are able. projectable_hangs p a edges set ok are able

use Rattle.kept_texts.proofs.WellFormedProjections.{projection_well_formed}
use Rattle.kept_texts.proofs.projection_is_well_formed.Goals as goal

pub returns : goal.returns
returns c = λ p a edges set ok are able. projection_well_formed p a edges set ok are able

use Rattle.kept_texts.proofs.WellFormedProjections.{projection_words}
use Rattle.kept_texts.proofs.projection_keeps_words.Goals as goal

pub returns : goal.returns
returns c = λ p a edges set ok are able. projection_words p a edges set ok are able

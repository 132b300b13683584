use Rattle.kept_texts.proofs.WellFormedProjections.{can_project}
use Rattle.kept_texts.proofs.projectable_nests.Goals as goal

pub returns : goal.returns
returns c = λ p a edges set ok are able. can_project p a edges set ok are able

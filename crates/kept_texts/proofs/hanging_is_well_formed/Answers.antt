use Rattle.kept_texts.proofs.WellFormedProjections.{hanging_well_formed}
use Rattle.kept_texts.proofs.hanging_is_well_formed.Goals as goal

pub returns : goal.returns
returns c = λ p k ok h. hanging_well_formed p k ok h

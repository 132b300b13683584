use Rattle.kept_texts.proofs.WellFormedProjections.{hanging_text}
use Rattle.kept_texts.proofs.hanging_is_text.Goals as goal

pub returns : goal.returns
returns c = λ raw p k tree has within h. hanging_text raw p k tree has within h

use Rattle.kept_texts.proofs.WellFormedClear.{hanging_clear}
use Rattle.kept_texts.proofs.hanging_is_clear.Goals as goal

pub returns : goal.returns
returns c = λ p k ok h. hanging_clear p k ok h

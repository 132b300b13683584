use Rattle.control_nesting.proofs.TakenTexts.{texts_taken}
use Rattle.control_nesting.proofs.texts_take_all.Goals as goal

pub returns : goal.returns
returns c = λ raw p tree has. texts_taken raw p tree has

use Rattle.c_scope_laws.proofs.ThinnedTexts.{text_left}
use Rattle.c_scope_laws.proofs.thinner_text.Goals as goal

pub returns : goal.returns
returns c = λ k raw rules closed. text_left k raw rules closed

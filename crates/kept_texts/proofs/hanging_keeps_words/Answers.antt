use Rattle.kept_texts.proofs.HangingWords.{hanging_words}
use Rattle.kept_texts.proofs.hanging_keeps_words.Goals as goal

pub returns : goal.returns
returns c = λ p k ok h. hanging_words p k h ok

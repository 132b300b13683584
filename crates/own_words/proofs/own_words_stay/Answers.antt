use Rattle.own_words.proofs.StandingWords.{keeps_words}
use Rattle.own_words.proofs.own_words_stay.Goals as goal

pub returns : goal.returns
returns c = λ p k together. keeps_words p k together

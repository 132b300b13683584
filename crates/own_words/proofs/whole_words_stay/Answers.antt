use Rattle.own_words.proofs.WholeWords.{whole_words}
use Rattle.own_words.proofs.whole_words_stay.Goals as goal

pub returns : goal.returns
returns c = λ k x h. whole_words k x h

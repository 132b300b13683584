use Rattle.crew.proofs.BoardLaws.{words_never_shrink}
use Rattle.crew.proofs.laws.words_never_shrink.Goals as goal

pub returns : goal.returns
returns c = words_never_shrink

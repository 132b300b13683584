use Rattle.numbered_texts.proofs.NumbersButLines.{results_stored}
use Rattle.numbered_texts.proofs.results_are_given.Goals as goal

pub returns : goal.returns
returns c = results_stored

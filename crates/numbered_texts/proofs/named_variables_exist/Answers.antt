use Rattle.numbered_texts.proofs.NumbersButLines.{named_exist}
use Rattle.numbered_texts.proofs.named_variables_exist.Goals as goal

pub returns : goal.returns
returns c = named_exist

use Rattle.numbered_texts.proofs.NumbersButLines.{statements_numbered}
use Rattle.numbered_texts.proofs.statements_are_numbered.Goals as goal

pub returns : goal.returns
returns c = statements_numbered

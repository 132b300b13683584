use Rattle.numbered_texts.proofs.NumbersButLines.{calls_fit_well}
use Rattle.numbered_texts.proofs.calls_fit.Goals as goal

pub returns : goal.returns
returns c = calls_fit_well

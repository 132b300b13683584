use Rattle.numbered_texts.proofs.Listed.{used_are_listed}
use Rattle.numbered_texts.proofs.NumbersButLines.{named_exist}
use Rattle.numbered_texts.proofs.locations_are_listed.Goals as goal

pub returns : goal.returns
returns c = λ p a ok. used_are_listed p (named_exist p ok) a

use Rattle.numbered_texts.proofs.ListedEffects.{effects_listed}
use Rattle.numbered_texts.proofs.NumbersButLines.{named_exist}
use Rattle.numbered_texts.proofs.effects_are_listed.Goals as goal

pub returns : goal.returns
returns c = λ p points f l ok. effects_listed p points (named_exist p ok) f l

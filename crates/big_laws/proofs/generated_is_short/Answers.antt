use Rattle.big_laws.proofs.Short.{generated_short}
use Rattle.big_laws.proofs.generated_is_short.Goals as goal

pub returns : goal.returns
returns c = λ seed size few. generated_short seed size few

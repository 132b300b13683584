use Rattle.big_laws.proofs.Accepted.{generated_accepted}
use Rattle.big_laws.proofs.generated_is_accepted.Goals as goal

pub returns : goal.returns
returns c = λ seed size some small. generated_accepted seed size some small

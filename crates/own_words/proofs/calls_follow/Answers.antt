use Rattle.own_words.proofs.SplitCalls.{call_follows}
use Rattle.own_words.proofs.calls_follow.Goals as goal

pub returns : goal.returns
returns c = λ p k i l v f args x is kept alone stays. call_follows p k i l v f args x is kept alone stays

use Rattle.c_scope_laws.proofs.ItemWalking.{thinner_keeps}
use Rattle.c_scope_laws.proofs.thinner_keeps_rules.Goals as goal

pub returns : goal.returns
returns c = λ k raw other thin keeps number line broken. thinner_keeps k raw other thin keeps number line broken

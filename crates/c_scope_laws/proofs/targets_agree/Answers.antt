use Rattle.c_scope_laws.proofs.StatementAgreement.{targets_same}
use Rattle.c_scope_laws.proofs.targets_agree.Goals as goal

pub returns : goal.returns
returns c = λ f raw other scope next to like agree numbers. targets_same f _ raw other scope next like agree to (λ a c x n. (a, c, n)) numbers

use Rattle.c_scope_laws.proofs.StatementAgreement.{inits_same}
use Rattle.c_scope_laws.proofs.inits_agree.Goals as goal

pub returns : goal.returns
returns c = λ f raw other scope next i like agree. inits_same f _ raw other scope next like agree i (λ a c x n. (a, c, n))

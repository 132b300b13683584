use Rattle.c_scope_laws.proofs.StatementAgreement.{args_same}
use Rattle.c_scope_laws.proofs.args_agree.Goals as goal

pub returns : goal.returns
returns c = λ f raw other scope next args like agree. args_same f _ raw other scope next like agree args (λ a c x n. (a, c, n))

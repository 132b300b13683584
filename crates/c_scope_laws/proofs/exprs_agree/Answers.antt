use Rattle.c_scope_laws.proofs.ExprAgreement.{exprs_same}
use Rattle.c_scope_laws.proofs.exprs_agree.Goals as goal

pub returns : goal.returns
returns c = λ f raw other scope next a like agree. exprs_same f _ raw other scope next like agree a (λ x h. h)

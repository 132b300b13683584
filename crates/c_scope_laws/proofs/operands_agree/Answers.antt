use Rattle.c_scope_laws.proofs.ExprAgreement.{operands_same}
use Rattle.c_scope_laws.proofs.operands_agree.Goals as goal

pub returns : goal.returns
returns c = λ f raw other scope next a like agree. operands_same f _ raw other scope next like agree a (λ x h. h)

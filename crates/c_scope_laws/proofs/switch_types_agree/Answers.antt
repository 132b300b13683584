use Rattle.c_scope_laws.proofs.StatementAgreement.{switch_types_same}
use Rattle.c_scope_laws.proofs.switch_types_agree.Goals as goal

pub returns : goal.returns
returns c = λ f raw other scope next a like agree. switch_types_same f _ raw other scope next like agree a (λ x h. h)

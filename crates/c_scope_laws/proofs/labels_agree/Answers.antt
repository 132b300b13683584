use Rattle.c_scope_laws.proofs.StatementAgreement.{labels_same}
use Rattle.c_scope_laws.proofs.labels_agree.Goals as goal

pub returns : goal.returns
returns c = λ f raw other scope next t a like agree. labels_same f _ raw other scope next like agree t a (λ b c x n. (b, c, n))

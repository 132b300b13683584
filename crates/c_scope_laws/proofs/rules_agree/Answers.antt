use Rattle.c_scope_laws.proofs.RulesAgreement.{breaks_moves}
use Rattle.c_scope_laws.proofs.rules_agree.Goals as goal

pub returns : goal.returns
returns c = λ heads f raw other scope next part changed n a fit h. breaks_moves heads f _ _ _ _ raw other scope next fit a (record { names = λ x k. k; heads = λ x k. k; declares = λ x k. k; declares_head = λ x k. k }) h

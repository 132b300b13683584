use Rattle.c_scope_laws.proofs.StatementAgreement.{simple_fits}
use Rattle.c_scope_laws.proofs.simple_trees_agree.Goals as goal

pub returns : goal.returns
returns c = λ ns raw other scope next x part is fit agree. simple_fits ns raw other scope next x part is fit agree

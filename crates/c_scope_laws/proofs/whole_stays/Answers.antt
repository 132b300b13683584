use Rattle.c_scope_laws.proofs.WholeTexts.{whole}
use Rattle.c_scope_laws.proofs.whole_stays.Goals as goal

pub returns : goal.returns
returns c = λ raw h. whole raw h

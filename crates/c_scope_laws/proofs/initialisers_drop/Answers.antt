use Rattle.c_scope_laws.proofs.CountedLengths.{initialiser_drops}
use Rattle.c_scope_laws.proofs.initialisers_drop.Goals as goal

pub returns : goal.returns
returns c = λ raw other v w i like name h. initialiser_drops raw other like v w i name h

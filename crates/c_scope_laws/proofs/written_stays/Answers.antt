use Rattle.c_scope_laws.proofs.CountedLengths.{stays}
use Rattle.c_scope_laws.proofs.written_stays.Goals as goal

pub returns : goal.returns
returns c = λ items a h. stays items a h

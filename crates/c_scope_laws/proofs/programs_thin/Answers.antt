use Rattle.c_scope_laws.proofs.ProgramThinning.{program_thins}
use Rattle.c_scope_laws.proofs.programs_thin.Goals as goal

pub returns : goal.returns
returns c = λ k raw other p names thin keeps at. program_thins k raw other p names thin keeps at

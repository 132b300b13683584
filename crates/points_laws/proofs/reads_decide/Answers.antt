use Rattle.points_laws.proofs.ReadLemmas.{reads_decide}
use Rattle.points_laws.proofs.reads_decide.Goals as goal

pub returns : goal.returns
returns c = reads_decide

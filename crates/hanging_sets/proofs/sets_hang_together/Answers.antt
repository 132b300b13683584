use Rattle.hanging_sets.proofs.WellFormedSets.{well_formed_hang}
use Rattle.hanging_sets.proofs.sets_hang_together.Goals as goal

pub returns : goal.returns
returns c = λ p a set well own can. well_formed_hang p a set well own can

use Rattle.control_nesting.proofs.TakenLines.{well_formed_taken}
use Rattle.control_nesting.proofs.well_formed_takes_all.Goals as goal

pub returns : goal.returns
returns c = λ p ok. well_formed_taken p ok

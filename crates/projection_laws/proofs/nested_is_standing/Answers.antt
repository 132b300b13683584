use Rattle.projection_laws.proofs.StandsNested.{nested_standing}
use Rattle.projection_laws.proofs.nested_is_standing.Goals as goal

pub returns : goal.returns
returns c = λ p keeps h outer inner s q. nested_standing p keeps h outer inner s q

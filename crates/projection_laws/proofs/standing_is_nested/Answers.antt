use Rattle.projection_laws.proofs.StandsNested.{standing_nested}
use Rattle.projection_laws.proofs.standing_is_nested.Goals as goal

pub returns : goal.returns
returns c = λ p keeps h. standing_nested p keeps h

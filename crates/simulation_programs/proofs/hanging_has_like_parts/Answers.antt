use Rattle.simulation_programs.proofs.LikePrograms.{like_parts}
use Rattle.simulation_programs.proofs.hanging_has_like_parts.Goals as goal

pub returns : goal.returns
returns c = λ p q k ok h same. like_parts p k ok h q same

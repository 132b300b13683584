use Rattle.c_scope_laws.proofs.ThinnedBodies.{body_stays}
use Rattle.c_scope_laws.proofs.bodies_stay.Goals as goal

pub returns : goal.returns
returns c = λ k raw other scope xs like rules m. body_stays k raw other like xs scope rules m

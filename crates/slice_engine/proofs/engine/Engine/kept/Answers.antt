use Rattle.std.proofs.Common.{subst}
use Rattle.slice_engine.specs.Engine.{HasPlaces}
use Rattle.slice_engine.proofs.engine.Engine.kept.Goals as goal

pub returns-clause-size : goal.returns-clause-size
returns-clause-size c = subst (λ p. HasPlaces p c.in_ok-set.set) c.in_ok-slicing.ensures c.in_ok-set.ensures.size

use Rattle.simulation_locations.proofs.callers_want_unmodified.Goals as goal
use Rattle.dep_model.specs.Doings.{Calls, doings_of}
use Rattle.dep_model.proofs.Membership.{in_of_contains}
use Rattle.simulation_locations.proofs.Unmodified.{unmodified}

pub returns : goal.returns
returns c = λ p a kept f i g to args r l sound m h.
    unmodified p a sound.numbered kept f i g to args r (in_of_contains (doings_of p f) (Calls i to g args) m) l (λ q. sound.modified_listed g l q) h

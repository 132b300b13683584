use Rattle.simulation_places.proofs.Places as lemmas
use Rattle.simulation_places.proofs.places_are_projected.Goals as goal

pub returns : goal.returns
returns c = lemmas.places_are_projected

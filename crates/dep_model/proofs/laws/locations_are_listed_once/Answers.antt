use Rattle.dep_model.proofs.LocationsOnce.{listed_once}
use Rattle.dep_model.proofs.laws.locations_are_listed_once.Goals as goal

pub returns : goal.returns
returns c = listed_once

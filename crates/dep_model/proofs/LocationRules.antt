-- The equations by which the functions on locations are proved.
use Rattle.std.proofs.Common.{append-nil, append_assoc}
use Rattle.dep_model.proofs.LocationSites.{sites_of}

pub ruleset sited = (sites_of, append-nil, append_assoc)

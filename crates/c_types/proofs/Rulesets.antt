-- The equations by which the functions on types are proved.
use Rattle.c_types.proofs.LimitLemmas.{longest_of, cells_of}

pub ruleset types = (longest_of, cells_of)

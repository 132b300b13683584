-- The sets of equations that the functions of this crate are proved by.
use Rattle.c_language.proofs.ConstantLemmas.{constants_of}
use Rattle.c_types_base.proofs.JudgedLemmas.{judgements_of}
use Rattle.c_types_base.proofs.TreeLemmas.{trees_of}
use Rattle.c_types_base.proofs.TypeLemmas.{types_of}

pub ruleset constants = (constants_of)

pub ruleset judgements = (judgements_of)

pub ruleset written_types = (types_of)

pub ruleset trees = (judgements_of, trees_of)

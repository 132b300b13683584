-- The equations by which the functions of this crate are proved.
use Rattle.tree_types.proofs.TypeForms.{shapes_of, types_of}

pub ruleset shapes = (shapes_of)

pub ruleset expressions = (types_of)

-- The equations by which the functions of this crate are proved.
use Rattle.tree_types.proofs.TypeForms.{shapes_of, types_of}
use Rattle.effect_rows.proofs.DenotedForms.{denoted_of}
use Rattle.effect_rows.proofs.DesignatedForms.{designated_of}
use Rattle.effect_rows.proofs.OwnForms.{own_of}

pub ruleset shapes = (shapes_of)

pub ruleset expressions = (types_of)

pub ruleset denoted_forms = (denoted_of)

pub ruleset designated_forms = (designated_of)

pub ruleset own = (own_of)

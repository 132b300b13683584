-- The equations by which functions of this crate are proved.
use Rattle.effect_rows.proofs.OwnForms.{own_of}

pub ruleset own = (own_of)

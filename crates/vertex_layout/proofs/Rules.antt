-- The equations by which the functions of this crate are proved.
use Rattle.effect_rows.proofs.OwnForms.{own_of}
use Rattle.vertex_layout.proofs.OwnForms.{done_of}

pub ruleset forms = (own_of, done_of)

pub ruleset own = (own_of)

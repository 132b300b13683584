use Rattle.mod_ref.proofs.PlacedEffects.{are_rows}
use Rattle.mod_ref.proofs.laws.effects_by_place_are_rows.Goals as goal

pub returns : goal.returns
returns c = are_rows

use Rattle.effect_rows.proofs.GainLaws.{gains_by_place}
use Rattle.effect_rows.proofs.laws.rows_gain_by_place.Goals as goal

pub returns : goal.returns
returns c = gains_by_place

use Rattle.slice_engine.proofs.Conversions.{conversions_always_fit}
use Rattle.slice_engine.proofs.laws.conversions_always_fit.Goals as goal

pub returns : goal.returns
returns c = conversions_always_fit

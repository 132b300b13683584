use Rattle.simulation_values.proofs.Values.{projections_same_values}
use Rattle.simulation_values.proofs.projections_have_same_values.Goals as goal

pub returns : goal.returns
returns c = λ p q a edges kept set ranks ok own is_analysis are able reach stand same. projections_same_values p q a edges kept set ranks ok own is_analysis are able same reach stand

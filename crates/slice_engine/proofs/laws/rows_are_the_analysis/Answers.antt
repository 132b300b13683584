use Rattle.slice_engine.proofs.GraphLaws.{analysed}
use Rattle.slice_engine.proofs.laws.rows_are_the_analysis.Goals as goal

pub returns : goal.returns
returns c = λ p t e well rows. analysed p t e well rows.points_are rows.effects_are

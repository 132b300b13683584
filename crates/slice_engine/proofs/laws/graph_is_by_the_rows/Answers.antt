use Rattle.slice_engine.proofs.GraphLaws.{graph_by_rows}
use Rattle.slice_engine.proofs.laws.graph_is_by_the_rows.Goals as goal

pub returns : goal.returns
returns c = λ p t e g well rows of_program. graph_by_rows p t e well rows.points_are rows.effects_are g of_program

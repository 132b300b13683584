use Rattle.summary_edges.proofs.SeriesLaws.{few_rounds}
use Rattle.summary_edges.proofs.laws.rounds_are_few.Goals as goal

pub returns : goal.returns
returns c = λ g before truth rounds shaped exact series. few_rounds g shaped.rows_are truth exact before rounds series

use Rattle.summary_edges.proofs.StepGrowth.{others_settled}
use Rattle.summary_edges.proofs.laws.others_are_settled.Goals as goal

pub returns : goal.returns
returns c = λ g agenda before after shaped round f none. others_settled g agenda before after shaped round f none

use Rattle.summary_edges.proofs.StepGrowth.{only_true}
use Rattle.summary_edges.proofs.laws.only_true_where_none_is_due.Goals as goal

pub returns : goal.returns
returns c = λ g agenda before after shaped round words true_ none. only_true g agenda before after shaped round words true_ none

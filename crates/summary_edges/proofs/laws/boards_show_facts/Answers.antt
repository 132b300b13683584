use Rattle.summary_edges.proofs.FactMachineLaws.{boards_show_facts}
use Rattle.summary_edges.proofs.laws.boards_show_facts.Goals as goal

pub returns : goal.returns
returns c = boards_show_facts

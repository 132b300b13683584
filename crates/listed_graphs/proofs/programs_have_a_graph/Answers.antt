use Rattle.listed_graphs.proofs.Graphs.{has_graph}
use Rattle.listed_graphs.proofs.programs_have_a_graph.Goals as goal

pub returns : goal.returns
returns c = has_graph

use Rattle.shaped_graphs.proofs.ShapedGraphs.{graphs_are_shaped}
use Rattle.shaped_graphs.proofs.graphs_are_shaped.Goals as goal

pub returns : goal.returns
returns c = graphs_are_shaped

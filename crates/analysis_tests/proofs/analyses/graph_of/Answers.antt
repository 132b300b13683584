use Rattle.analysis_tests.proofs.Skeletons.{graph_ready}
use Rattle.analysis_tests.proofs.analyses.graph_of.Goals as goal

pub returns : goal.returns
returns c = graph_ready c.args.p.now c.in_ok-skeleton.skeleton c.in_ok-graph.graph c.in_ok-skeleton.ensures c.in_ok-graph.ensures

use Rattle.pdg.proofs.UnionLaws.{union_is_function_graph}
use Rattle.pdg.proofs.laws.union_is_function_graph.Goals as goal

pub returns : goal.returns
returns c = union_is_function_graph

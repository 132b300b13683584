use Rattle.sdg.specs.GraphEdges.{IsPartEdge, IsEdgeOfSites}
use Rattle.sdg.proofs.AddLemmas.{joined_in_order}
use Rattle.sdg.proofs.part_edges.find.Goals as goal

pub returns-clause-exact : goal.returns-clause-exact
returns-clause-exact c =
    joined_in_order _ _ _ _ (IsPartEdge c.args.parts.now) (IsEdgeOfSites c.args.vertices.now c.args.sites.now) c.new-edges.ensures.items c.in_ok-join_parts.ensures c.in_ok-join_sites.ensures c.ascend.ensures.same

-- The edges of a graph: those of its functions, and those at its calls.
use Rattle.std.specs.Prelude.{List, Contains}
use Rattle.dep_model.specs.declared.edge.Edge.{Edge}
use Rattle.dep_model.specs.declared.graph.FunctionGraph.{FunctionGraph}
use Rattle.dep_model.specs.declared.vertex.Vertex.{Vertex}
use Rattle.sdg.specs.declared.call_sites.CallSite.{CallSite}
use Rattle.sdg.specs.SiteEdges.{IsSiteEdge}

-- an edge of one of the graphs
pub record IsPartEdge (parts : List FunctionGraph) (e : Edge) : Type 0 where
  pub part : FunctionGraph
  pub is_part : Contains parts part
  pub has : Contains part.edges e

-- an edge at one of the calls
pub record IsEdgeOfSites (vs : List Vertex) (sites : List CallSite) (e : Edge) : Type 0 where
  pub site : CallSite
  pub is_site : Contains sites site
  pub at : IsSiteEdge vs site e

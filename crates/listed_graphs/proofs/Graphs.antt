-- A well-formed program has its one analysis and its graph.
use Rattle.std.proofs.Common.{◌≡◌, ◌⊎◌, inl, inr, List, refl}
use Rattle.std.specs.declared.cmp.Ordering.{Ordering}
use Rattle.std.specs.declared.cmp.Ordering.TheVariants.{Less, Equal, Greater}
use Rattle.c_tree.specs.declared.program.Program.{Program}
use Rattle.c_language.specs.Programs.{IsWellFormed}
use Rattle.dep_model.specs.declared.edge.Edge.{Edge}
use Rattle.dep_model.specs.declared.graph.Graph.{Graph}
use Rattle.dep_model.specs.EdgeOrder.{IsBefore}
use Rattle.dep_model.specs.Graphs.{out_rows, fact_words, IsGraph}
use Rattle.dep_model.specs.SystemGraph.{Analysis, vertices_of, AreSystemEdges}
use Rattle.dep_model.proofs.Membership.{in_of_contains, contains_of_in}
use Rattle.dep_model.proofs.OneAnalysis.{has_analysis}
use Rattle.pdg.proofs.EdgeLess.{edge_cmp, before_before, told_less, told_equal, told_greater}
use Rattle.listed_graphs.specs.Laws.{ProgramsHaveAnAnalysis, ProgramsHaveAGraph}
use Rattle.listed_graphs.proofs.Ascending.{Sorted, sorted, all_pairs_of}
use Rattle.listed_graphs.proofs.PointsTo.{has_points_to}
use Rattle.listed_graphs.proofs.SystemEdges.{system_edges}

pub analysis_there : ProgramsHaveAnAnalysis
analysis_there p well = let points = has_points_to p well in has_analysis p points.0 points.1

-- ---- its edges, ascending

edge_order : (e f : Edge) → IsBefore e f ⊎ ((e ≡ f) ⊎ IsBefore f e)
edge_order e f = by (edge_cmp e f) refl
  where
    by : (o : Ordering) → o ≡ edge_cmp e f → IsBefore e f ⊎ ((e ≡ f) ⊎ IsBefore f e)
    by Less is = inl (told_less e f Less is refl)
    by Equal is = inr (inl (told_equal e f Equal is refl))
    by Greater is = inr (inr (told_greater e f Greater is refl))

module _ (p : Program) (a : Analysis) (well : IsWellFormed p) where
  edges_in_order : Sorted IsBefore before_before edge_order (system_edges p a well).items
  edges_in_order = sorted IsBefore before_before edge_order (system_edges p a well).items

  pub edges_there : List Edge
  edges_there = edges_in_order.items

  pub are_edges : AreSystemEdges p a edges_there
  unfolding edges_in_order edges_there
  are_edges e = (
    λ c. ((system_edges p a well).exact e).0 ((edges_in_order.exact e).0 (in_of_contains edges_there e c)),
    λ h. contains_of_in edges_there e ((edges_in_order.exact e).1 (((system_edges p a well).exact e).1 h)),
  )

  -- the graph by an analysis
  pub graph_there : (g : Graph) × IsGraph p a g
  unfolding edges_in_order edges_there
  graph_there = (
    record { vertices = vertices_of p a; edges = edges_there; outs = out_rows (vertices_of p a); fact_words = fact_words (vertices_of p a) },
    record {
      vertices_are = refl;
      ascending = all_pairs_of IsBefore before_before edge_order edges_there edges_in_order.ascends;
      edges_are = are_edges;
      rows_are = record { outs_are = refl; words_are = refl };
    },
  )

pub has_graph : ProgramsHaveAGraph
has_graph p well =
    let a = analysis_there p well in
    let g = graph_there p a.0 well in
    (g.0, record { analysis = a.0; is_analysis = a.1.is_analysis; is_graph = g.1 })

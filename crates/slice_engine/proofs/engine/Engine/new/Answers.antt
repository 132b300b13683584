use Rattle.slice_engine.proofs.GraphLaws.{none_above}
use Rattle.shaped_graphs.proofs.ShapedGraphs.{graphs_are_shaped}
use Rattle.slice_engine.proofs.engine.Engine.new.Goals as goal

pub find-requires-clause-shaped : goal.find-requires-clause-shaped
find-requires-clause-shaped g c κs within =
    graphs_are_shaped c.args.p c.in_ok-graph.graph c.requires.well_formed c.in_ok-graph.ensures.graph c.in_ok-graph.ensures.within.few_vertices c.in_ok-graph.ensures.within.few_words

pub invariant_of-result : goal.invariant_of-result
invariant_of-result g c = record {
  prepared = record {
    well_formed = c.requires.well_formed;
    is_graph = c.in_ok-graph.ensures.graph;
    within = c.in_ok-graph.ensures.within;
    shaped = graphs_are_shaped c.args.p c.in_ok-graph.graph c.requires.well_formed c.in_ok-graph.ensures.graph c.in_ok-graph.ensures.within.few_vertices c.in_ok-graph.ensures.within.few_words;
    facts_are = c.in_ok-facts.ensures.exact;
    starts_are = c.in_ok-starts.ensures;
  };
  locations_are = c.in_ok-locations.ensures.list;
}

pub returns-clause-within : goal.returns-clause-within
returns-clause-within g c = none_above c.args.p c.in_ok-graph.graph c.in_ok-graph.ensures.graph c.in_ok-graph.ensures.within

use Rattle.program_graph.proofs.Parts.{by_function, pairs_in, function_graph}
use Rattle.program_graph.proofs.function_graph.Goals as goal

pub edges-requires-clause-by_function : goal.edges-requires-clause-by_function
edges-requires-clause-by_function c = by_function c.args.p.now c.args.s.now c.requires.skeleton

pub follows-requires-clause-by_function : goal.follows-requires-clause-by_function
follows-requires-clause-by_function c = by_function c.args.p.now c.args.s.now c.requires.skeleton

pub edges-requires-2-clause-by_function : goal.edges-requires-2-clause-by_function
edges-requires-2-clause-by_function c = by_function c.args.p.now c.args.s.now c.requires.skeleton

pub edges-requires-2-clause-ends : goal.edges-requires-2-clause-ends
edges-requires-2-clause-ends c =
    pairs_in c.args.p.now c.args.s.now c.args.f c.in_ok-order.order.pairs c.in_ok-order.ensures.exact

pub returns : goal.returns
returns c = λ a is.
    function_graph c.args.p.now c.args.s.now c.requires.skeleton a is c.args.f c.in_ok-order.order c.in_ok-control.control.items c.in_ok-flow.flow.items c.in_ok-graph.graph
    c.in_ok-order.ensures.exact c.in_ok-control.ensures.exact c.in_ok-flow.ensures.exact c.in_ok-graph.ensures.ascending c.in_ok-graph.ensures.exact

use Rattle.dep_model.specs.EdgeOrder.{AreAscendingEdges}
use Rattle.reaching_defs.specs.Arrivals.{IsAtRest}
use Rattle.reaching_defs.proofs.EdgeLemmas.{AreFound}
use Rattle.reaching_defs.proofs.edges.Given as goal

abbrev pub invariant-loop-v : goal.invariant-loop-v
invariant-loop-v l = record {
  rest : IsAtRest l.next.stretch.size l.scratch;
  exact : AreFound l.s l.next.pairs.items l.v l.found.items;
  ascending : AreAscendingEdges l.found.items;
}

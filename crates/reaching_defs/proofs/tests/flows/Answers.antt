use Rattle.std.proofs.Common.{List, All, sym, subst}
use Rattle.dep_model.specs.declared.vertex.Vertex.{Vertex}
use Rattle.dep_model.specs.Pairs.{IsPairIn}
use Rattle.dep_model.specs.Stretches.{AreByFunction}
use Rattle.reaching_defs.proofs.SixVertices.{six_by_function, pairs_in_second}
use Rattle.reaching_defs.proofs.tests.flows.Goals as goal

pub edges-requires-clause-by_function : goal.edges-requires-clause-by_function
edges-requires-clause-by_function c = subst AreByFunction (sym c.in_ok-s.ensures.vertices) (six_by_function c.args.first c.requires)

pub edges-requires-clause-ends : goal.edges-requires-clause-ends
edges-requires-clause-ends c = subst (λ (vs : List Vertex). All (IsPairIn vs 1) c.in_ok-g.g.pairs) (sym c.in_ok-s.ensures.vertices) (pairs_in_second c.args.first c.requires c.in_ok-g.g.pairs c.in_ok-g.ensures)

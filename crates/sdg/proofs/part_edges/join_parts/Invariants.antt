use Rattle.std.proofs.Common.{take, Contains}
use Rattle.dep_model.specs.declared.graph.FunctionGraph.{FunctionGraph}
use Rattle.sdg.specs.SiteEdges.{Adds}
use Rattle.sdg.proofs.AddLemmas.{OneOf}
use Rattle.sdg.proofs.part_edges.join_parts.Given as goal

abbrev pub invariant-loop-part : goal.invariant-loop-part
invariant-loop-part l =
    Adds l.initial.edges.items l.edges.items (OneOf (λ (g : FunctionGraph) e. Contains g.edges e) (take l.part-index l.parts))

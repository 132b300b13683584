use Rattle.std.proofs.Common.{take}
use Rattle.sdg.specs.SiteEdges.{Adds, IsActualEdge}
use Rattle.sdg.specs.VertexLists.{list_at}
use Rattle.sdg.proofs.AddLemmas.{OneOf}
use Rattle.sdg.proofs.call_edges.join_call.Given as goal

abbrev pub invariant-loop-actual : goal.invariant-loop-actual
invariant-loop-actual l =
    Adds l.initial.edges.items l.edges.items (OneOf (IsActualEdge l.vertices l.site l.call) (take l.actual-index (list_at l.places.calls l.site.statement)))

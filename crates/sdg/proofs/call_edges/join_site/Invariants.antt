use Rattle.std.proofs.Common.{take}
use Rattle.sdg.specs.SiteEdges.{Adds}
use Rattle.sdg.specs.VertexLists.{list_at}
use Rattle.sdg.proofs.AddLemmas.{OneOf}
use Rattle.sdg.proofs.SiteTurns.{IsCallAt}
use Rattle.sdg.proofs.call_edges.join_site.Given as goal

abbrev pub invariant-loop-vertex : goal.invariant-loop-vertex
invariant-loop-vertex l =
    Adds l.initial.edges.items l.edges.items (OneOf (IsCallAt l.vertices l.site) (take l.vertex-index (list_at l.places.calls l.site.statement)))

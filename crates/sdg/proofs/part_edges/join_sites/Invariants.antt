use Rattle.std.proofs.Common.{take}
use Rattle.sdg.specs.SiteEdges.{Adds, IsSiteEdge}
use Rattle.sdg.proofs.AddLemmas.{OneOf}
use Rattle.sdg.proofs.part_edges.join_sites.Given as goal

abbrev pub invariant-loop-site : goal.invariant-loop-site
invariant-loop-site l =
    Adds l.initial.edges.items l.edges.items (OneOf (IsSiteEdge l.vertices) (take l.site-index l.sites))

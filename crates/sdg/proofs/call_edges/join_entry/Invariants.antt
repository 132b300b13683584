use Rattle.std.proofs.Common.{◌≡◌, take}
use Rattle.dep_model.specs.declared.edge.Label.TheVariants as label
use Rattle.dep_model.specs.Graphs.{edge}
use Rattle.sdg.specs.SiteEdges.{Adds}
use Rattle.sdg.specs.VertexLists.{list_at}
use Rattle.sdg.proofs.AddLemmas.{OneOf}
use Rattle.sdg.proofs.call_edges.join_entry.Given as goal

abbrev pub invariant-loop-entry : goal.invariant-loop-entry
invariant-loop-entry l =
    Adds l.initial.edges.items l.edges.items (OneOf (λ n e. e ≡ edge l.call n (label.Call l.call)) (take l.entry-index (list_at l.fn.places.entries l.fn.site.callee)))

use Rattle.std.proofs.Common.{take}
use Rattle.sdg.specs.SiteEdges.{Adds}
use Rattle.sdg.proofs.ActualLaws.{LeavesAt}
use Rattle.sdg.proofs.AddLemmas.{OneOf}
use Rattle.sdg.proofs.call_edges.leave.Given as goal

abbrev pub invariant-loop-formal : goal.invariant-loop-formal
invariant-loop-formal l =
    Adds l.initial.edges.items l.edges.items (OneOf (LeavesAt l.vertices l.slot l.actual l.call) (take l.formal-index l.formals))

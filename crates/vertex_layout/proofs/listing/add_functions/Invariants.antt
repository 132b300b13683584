use Rattle.dep_model.specs.VertexOrder.{vertices_from}
use Rattle.vertex_layout.specs.Seen.{effects_in}
use Rattle.vertex_layout.proofs.Left.{Left}
use Rattle.vertex_layout.proofs.ListingTurns.{functions_left}
use Rattle.vertex_layout.proofs.listing.add_functions.Given as goal

abbrev pub invariant-loop-f : goal.invariant-loop-f
invariant-loop-f l =
    Left l.initial.list (vertices_from l.seen.program (effects_in l.seen) 0 l.functions) (functions_left l.seen.program (effects_in l.seen) l.functions l.f) l.list

use Rattle.vertex_layout.specs.Listing.{vertices_in, all_own_kinds}
use Rattle.vertex_layout.specs.OwnStatements.{own_doings}
use Rattle.vertex_layout.proofs.Left.{Left}
use Rattle.vertex_layout.proofs.ListingTurns.{statements_left}
use Rattle.vertex_layout.proofs.listing.add_statements.Given as goal

abbrev pub invariant-loop-statement : goal.invariant-loop-statement
invariant-loop-statement l =
    Left l.initial.list (vertices_in l.f (all_own_kinds l.seen (own_doings l.statements))) (statements_left l.seen l.f l.statements l.statement-index) l.list

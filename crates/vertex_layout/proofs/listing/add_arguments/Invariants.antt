use Rattle.std.proofs.Common.{◌≤◌, length, map}
use Rattle.vertex_layout.specs.Listing.{through, vertices_in, argument_slots}
use Rattle.vertex_layout.proofs.Left.{Left}
use Rattle.vertex_layout.proofs.ListingTurns.{arguments_left}
use Rattle.vertex_layout.proofs.listing.add_arguments.Given as goal

abbrev pub invariant-loop-k : goal.invariant-loop-k
invariant-loop-k l = record {
  left : Left l.initial.list (vertices_in l.f (map (through l.port) (argument_slots 0 l.arguments))) (arguments_left l.f l.port l.arguments l.k) l.list;
  listed : l.k ≤ length l.list;
  few : l.k ≤ 65536;
}

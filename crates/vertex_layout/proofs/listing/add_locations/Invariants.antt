use Rattle.std.proofs.Common.{◌≡◌, length, map}
use Rattle.dep_model.specs.Locations.{locations}
use Rattle.vertex_layout.specs.Listing.{through, vertices_in, touched_slots}
use Rattle.vertex_layout.specs.Seen.{effects_in, touches}
use Rattle.vertex_layout.proofs.Left.{Left}
use Rattle.vertex_layout.proofs.ListingTurns.{locations_left}
use Rattle.vertex_layout.proofs.listing.add_locations.Given as goal

abbrev pub invariant-loop-k : goal.invariant-loop-k
invariant-loop-k l = record {
  end : l.k-end ≡ length (locations l.seen.program);
  left : Left l.initial.list (vertices_in l.f (map (through l.port) (touched_slots l.seen l.touch l.g)))
      (locations_left l.f l.port (touches (effects_in l.seen) l.touch l.g) (locations l.seen.program) l.k) l.list;
}

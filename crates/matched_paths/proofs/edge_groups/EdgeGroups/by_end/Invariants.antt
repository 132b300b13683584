use Rattle.std.proofs.Common.{◌≡◌, ℕ, take, flat_map}
use Rattle.matched_paths.specs.EdgeGroups.{ending, grouped}
use Rattle.matched_paths.proofs.edge_groups.EdgeGroups.by_end.Given as goal

abbrev pub invariant-loop-edge : goal.invariant-loop-edge
invariant-loop-edge l = (v : ℕ) → grouped l.rows v ≡ flat_map (ending v) (take l.edge-index l.edges)

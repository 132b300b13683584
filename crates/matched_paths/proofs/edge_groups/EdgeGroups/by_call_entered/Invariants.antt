use Rattle.std.proofs.Common.{◌≡◌, ℕ, take, flat_map}
use Rattle.matched_paths.specs.EdgeGroups.{entering, grouped}
use Rattle.matched_paths.proofs.edge_groups.EdgeGroups.by_call_entered.Given as goal

abbrev pub invariant-loop-edge : goal.invariant-loop-edge
invariant-loop-edge l = (c : ℕ) → grouped l.rows c ≡ flat_map (entering c) (take l.edge-index l.edges)

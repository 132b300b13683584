use Rattle.std.proofs.Common.{◌≡◌, ℕ, take, flat_map}
use Rattle.matched_paths.specs.EdgeGroups.{calling, grouped}
use Rattle.matched_paths.proofs.edge_groups.EdgeGroups.by_callee.Given as goal

abbrev pub invariant-loop-edge : goal.invariant-loop-edge
invariant-loop-edge l = (h : ℕ) → grouped l.rows h ≡ flat_map (calling l.vertices h) (take l.edge-index l.edges)

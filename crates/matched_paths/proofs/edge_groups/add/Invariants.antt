use Rattle.std.proofs.Common.{◌≡◌, ℕ, ◌+◌, ◌-◌, length}
use Rattle.matched_paths.specs.EdgeGroups.{grouped}
use Rattle.matched_paths.proofs.edge_groups.add.Given as goal

abbrev pub invariant-loop-alloc : goal.invariant-loop-alloc
invariant-loop-alloc l = (c : ℕ) → grouped l.rows c ≡ grouped l.initial.rows c

abbrev pub decreases-loop-alloc : goal.decreases-loop-alloc
decreases-loop-alloc l = l.at + 1 - length l.rows.items

use Rattle.std.proofs.Common.{◌≡◌, ℕ, ◌+◌, ◌-◌, length}
use Rattle.sdg.specs.VertexLists.{list_at, lists_of}
use Rattle.sdg.proofs.vertex_lists.add.Given as goal

abbrev pub invariant-loop-alloc : goal.invariant-loop-alloc
invariant-loop-alloc l = (k : ℕ) → list_at (lists_of l.lists) k ≡ list_at (lists_of l.initial.lists) k

abbrev pub decreases-loop-alloc : goal.decreases-loop-alloc
decreases-loop-alloc l = l.at + 1 - length l.lists.items

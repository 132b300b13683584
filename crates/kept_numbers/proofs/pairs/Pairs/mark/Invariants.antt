use Rattle.std.proofs.Common.{◌≡◌, ℕ, ◌+◌, ◌-◌, length}
use Rattle.kept_numbers.specs.Pairs.{marked, rows_of}
use Rattle.kept_numbers.proofs.pairs.Pairs.mark.Given as goal

abbrev pub invariant-loop-alloc : goal.invariant-loop-alloc
invariant-loop-alloc l = (i n : ℕ) → marked (rows_of l.self-inside.rows) i n ≡ marked (rows_of l.initial.self-inside.rows) i n

abbrev pub decreases-loop-alloc : goal.decreases-loop-alloc
decreases-loop-alloc l = l.at + 1 - length l.self-inside.rows.items

use Rattle.std.proofs.Common.{◌≡◌, ◌≤◌, ◌+◌, ◌++◌, length, drop}
use Rattle.c_meaning.specs.Cells.{Structs}
use Rattle.c_memory.specs.Zeros.{member_zeros, member_turns, all_zeros, all_turns}
use Rattle.c_memory.proofs.layouts.zeros.add_all.Given as goal

abbrev pub invariant-loop-number : goal.invariant-loop-number
invariant-loop-number l = record {
  cells : (structs : Structs) → all_zeros structs l.waiting.items ≡ member_zeros structs l.limit (drop l.number l.members) ++ all_zeros structs l.initial.waiting.items;
  turns : (structs : Structs) → all_turns structs l.waiting.items ≡ member_turns structs l.limit (drop l.number l.members) + all_turns structs l.initial.waiting.items;
  within : l.number ≤ length l.members;
}

abbrev pub decreases-loop-number : goal.decreases-loop-number
decreases-loop-number l = l.number

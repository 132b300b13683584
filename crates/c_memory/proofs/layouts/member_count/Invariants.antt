use Rattle.std.proofs.Common.{◌≡◌, ◌≤◌, ◌+◌, List, length, drop}
use Rattle.c_language.specs.declared.expr_type.ExprType.{ExprType}
use Rattle.c_meaning.specs.Cells.{member_cells}
use Rattle.c_memory.specs.Counts.{saturated, AreCounts}
use Rattle.c_memory.proofs.layouts.member_count.Given as goal

abbrev pub invariant-loop-member : goal.invariant-loop-member
invariant-loop-member l = record {
  is : (known : List (List ExprType)) → AreCounts l.counts known
      → saturated (l.sum + length (member_cells known (drop l.member-index l.members))) ≡ saturated (length (member_cells known l.members));
  small : l.sum ≤ 18446744073709551615;
}

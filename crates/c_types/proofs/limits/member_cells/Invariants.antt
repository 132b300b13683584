use Rattle.std.proofs.Common.{◌≡◌, ◌≤◌, ℕ, List, take}
use Rattle.c_language.specs.Limits.{member_cells}
use Rattle.c_types.specs.Limits.{capped, all_capped}
use Rattle.c_types.proofs.limits.member_cells.Given as goal

abbrev pub invariant-loop-member : goal.invariant-loop-member
invariant-loop-member l = record {
  is : (counts : List ℕ) → l.structs ≡ all_capped counts → l.sum ≡ capped (member_cells counts (take l.member-index l.members));
  small : l.sum ≤ 1048577;
}

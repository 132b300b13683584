use Rattle.std.proofs.Common.{◌≡◌, ◌++◌, take}
use Rattle.c_language.specs.Layout.{member_lines}
use Rattle.c_print.proofs.items.members.Given as goal

abbrev pub invariant-loop-member : goal.invariant-loop-member
invariant-loop-member l = l.out ≡ l.initial.out ++ member_lines l.program (take l.member-index l.all)

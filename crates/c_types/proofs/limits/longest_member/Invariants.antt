use Rattle.std.proofs.Common.{◌≡◌, take}
use Rattle.c_language.specs.Limits.{longest_member}
use Rattle.c_types.proofs.limits.longest_member.Given as goal

abbrev pub invariant-loop-member : goal.invariant-loop-member
invariant-loop-member l = l.best ≡ longest_member (take l.member-index l.members)

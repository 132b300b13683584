use Rattle.std.proofs.Common.{take}
use Rattle.c_types_base.specs.Numbering.{Numbers}
use Rattle.c_types_base.specs.Definitions.{names_of_members}
use Rattle.c_types_base.proofs.definitions.numbered_members.Given as goal

abbrev pub invariant-loop-member : goal.invariant-loop-member
invariant-loop-member l = Numbers (names_of_members (take l.member-index l.members)) l.all

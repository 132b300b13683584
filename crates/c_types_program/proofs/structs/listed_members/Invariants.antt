use Rattle.std.proofs.Common.{take}
use Rattle.c_types_base.specs.Listing.{HasMembers}
use Rattle.c_types_program.proofs.structs.listed_members.Given as goal

abbrev pub invariant-loop-member : goal.invariant-loop-member
invariant-loop-member l = HasMembers l.tables.raw.now (take l.member-index l.list) l.listed

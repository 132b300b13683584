use Rattle.std.proofs.Common.{[], drop, take}
use Rattle.c_types_base.specs.Listing.{HasMembers}
use Rattle.c_types_base.proofs.TextSteps.{of_members}
use Rattle.c_types_rules.proofs.WalkSteps.{Passed}
use Rattle.c_types_rules.proofs.items.members.Given as goal

abbrev pub invariant-loop-member : goal.invariant-loop-member
invariant-loop-member l = record {
  has : HasMembers l.tables.raw.now (take l.member-index l.list) l.listed;
  passed : Passed (of_members [] l.list) (of_members (take l.member-index l.list) (drop l.member-index l.list)) l.tables l.tables;
}

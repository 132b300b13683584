use Rattle.std.proofs.Common.{[], drop, take}
use Rattle.c_types_base.specs.Numbering.{Numbers}
use Rattle.c_types_base.specs.Listing.{names_given}
use Rattle.c_types_base.proofs.TextSteps.{of_taken}
use Rattle.c_types_rules.proofs.WalkSteps.{Passed}
use Rattle.c_types_rules.proofs.items.taken.Given as goal

abbrev pub invariant-loop-parameter : goal.invariant-loop-parameter
invariant-loop-parameter l = record {
  given : Numbers (names_given (take l.parameter-index l.list)) l.names;
  passed : Passed (of_taken [] l.list) (of_taken (take l.parameter-index l.list) (drop l.parameter-index l.list)) l.tables l.tables;
}

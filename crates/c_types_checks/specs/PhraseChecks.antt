-- The check of a phrase of any kind.
use Rattle.std.specs.Prelude.{Bool, true, false}
use Rattle.c_tree.specs.declared.raw.program.RawHead.{RawHead}
use Rattle.c_tree.specs.declared.raw.program.RawProgram.{RawProgram}
use Rattle.c_language.specs.Scopes.{Scope}
use Rattle.c_language.specs.Phrases.{Part, NamesStruct, DefinesStruct, HasMember, DeclaresFunction, Takes, EndsFunction, Declares, Begins, Assigns, Bumps, Calls, Allocates, Tests, Switches, Returns}
use Rattle.c_types_checks.specs.Checking.{Verdict, check_test, check_assignment, check_bump, check_return}
use Rattle.c_types_checks.specs.DeclarationChecks.{check_tag, check_struct, check_member, check_declared}
use Rattle.c_types_checks.specs.HeadChecks.{check_prototype, check_definition, check_parameter, check_end}
use Rattle.c_types_checks.specs.InitialiserChecks.{check_begun}
use Rattle.c_types_checks.specs.CallChecks.{check_call}
use Rattle.c_types_checks.specs.AllocationChecks.{check_allocation}
use Rattle.c_types_checks.specs.SwitchChecks.{check_switch}

module _ (raw : RawProgram) (scope : Scope) where
  -- a function's head, in a definition or not
  abbrev pub check_function : RawHead → Bool → Verdict
  check_function head true = check_definition raw scope head
  check_function head false = check_prototype raw scope head

  -- a rule that the phrase breaks, or none
  abbrev pub check_part : Part → Verdict
  check_part (NamesStruct tag) = check_tag raw scope tag
  check_part (DefinesStruct tag) = check_struct raw scope tag
  check_part (HasMember before m) = check_member raw scope before m
  check_part (DeclaresFunction head is_definition) = check_function head is_definition
  check_part (Takes before p) = check_parameter raw scope before p
  check_part (EndsFunction head body) = check_end raw scope head body
  check_part (Declares stand var i) = check_declared raw scope stand var i
  check_part (Begins stand var i) = check_begun raw scope stand var i
  check_part (Assigns left op right) = check_assignment raw scope left op right
  check_part (Bumps left) = check_bump raw scope left
  check_part (Calls stand to f args) = check_call raw scope stand to f args
  check_part (Allocates to cast n) = check_allocation raw scope to cast n
  check_part (Tests test) = check_test raw scope test
  check_part (Switches test labels) = check_switch raw scope test labels
  check_part (Returns value) = check_return raw scope value

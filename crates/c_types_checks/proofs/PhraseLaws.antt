-- The check of a phrase of any kind tells a rule exactly where the phrase breaks one.
use Rattle.std.proofs.Common.{◌≡◌, ℕ, Bool, true, false, Err, subst}
use Rattle.c_tree.specs.declared.raw.program.RawHead.{RawHead}
use Rattle.c_tree.specs.declared.raw.program.RawProgram.{RawProgram}
use Rattle.c_language.specs.Scopes.{Scope}
use Rattle.c_language.specs.Phrases.{Part, NamesStruct, DefinesStruct, HasMember, DeclaresFunction, Takes, EndsFunction, Declares, Begins, Assigns, Bumps, Calls, Allocates, Tests, Switches, Returns}
use Rattle.c_language.specs.Rules.{Breaks}
use Rattle.c_types_checks.specs.Checking.{kept}
use Rattle.c_types_checks.specs.PhraseChecks.{check_function, check_part}
use Rattle.c_types_base.proofs.TypedLaws.{IsTyped}
use Rattle.c_types_checks.proofs.Findings.{IsTrue}
use Rattle.c_types_checks.proofs.CheckLaws.{test_true, bump_true, assignment_true, return_true}
use Rattle.c_types_checks.proofs.DeclarationLaws.{names_struct_true, defines_struct_true, prototype_true, definition_true, end_true, parameter_true, member_true, declared_true}
use Rattle.c_types_checks.proofs.InitialiserLaws.{begun_true, switch_true}
use Rattle.c_types_checks.proofs.CallLaws.{call_true}
use Rattle.c_types_checks.proofs.AllocationLaws.{allocation_true}

module _ (raw : RawProgram) (scope : Scope) (typed : IsTyped raw scope) where
  function_true : (head : RawHead) (is_definition : Bool)
      → IsTrue raw scope (DeclaresFunction head is_definition) (check_function raw scope head is_definition)
  function_true head true = definition_true raw scope head
  function_true head false = prototype_true raw scope head

  -- a rule that is named is broken by the phrase, and where none is named it breaks none
  pub phrase_true : (part : Part) → IsTrue raw scope part (check_part raw scope part)
  phrase_true (NamesStruct tag) = names_struct_true raw scope tag
  phrase_true (DefinesStruct tag) = defines_struct_true raw scope tag
  phrase_true (HasMember before m) = member_true raw scope typed before m
  phrase_true (DeclaresFunction head is_definition) = function_true head is_definition
  phrase_true (Takes before p) = parameter_true raw scope before p
  phrase_true (EndsFunction head body) = end_true raw scope head body
  phrase_true (Declares stand var i) = declared_true raw scope typed stand var i
  phrase_true (Begins stand var i) = begun_true raw scope typed stand var i
  phrase_true (Assigns left op right) = assignment_true raw scope typed left op right
  phrase_true (Bumps left) = bump_true raw scope typed left
  phrase_true (Calls stand to f args) = call_true raw scope typed stand to f args
  phrase_true (Allocates to cast n) = allocation_true raw scope typed to cast n
  phrase_true (Tests test) = test_true raw scope typed test
  phrase_true (Switches test labels) = switch_true raw scope typed test labels
  phrase_true (Returns value) = return_true raw scope typed value

  pub kept_breaks_none : (part : Part) → check_part raw scope part ≡ kept → (n : ℕ) → Breaks raw scope part n → ⊥
  kept_breaks_none part h = subst (IsTrue raw scope part) h (phrase_true part)

  pub told_is_broken : (part : Part) (n : ℕ) → check_part raw scope part ≡ Err n → Breaks raw scope part n
  told_is_broken part n h = subst (IsTrue raw scope part) h (phrase_true part)

-- The checks of functions' heads, their parameters and their ends: the numbers of the rules that they break, or none.
use Rattle.std.specs.Prelude.{is_none, ◌==◌, Bool, true, false, not, ◌||◌, List, length, take, bytes_eq, Option, Some, None, if◌then◌else◌}
use Rattle.std.specs.List.{list_any}
use Rattle.c_language.specs.HeadTests.{gives_int, ends_with_value}
use Rattle.c_tree.specs.declared.raw.program.RawParam.{RawParam}
use Rattle.c_tree.specs.declared.raw.program.RawHead.{RawHead}
use Rattle.c_tree.specs.declared.raw.program.RawProgram.{RawProgram}
use Rattle.c_tree.specs.declared.raw.statement.RawStatement.{RawStatement}
use Rattle.c_language.specs.Words.{Bytes}
use Rattle.c_language.specs.DeclaredTypes.{defined_functions, definition_of}
use Rattle.c_language.specs.Scopes.{Scope, Meaning, meaning_here}
use Rattle.c_language.specs.Uses.{tags_in, tags_if, is_library_name}
use Rattle.c_language.specs.NameRules.{is_main, same_signature}
use Rattle.c_types_base.specs.Listing.{has_name}
use Rattle.c_types_checks.specs.Checking.{Verdict, kept, unless_broken, given_or, when_given, then_kept, all_kept}
use Rattle.c_types_checks.specs.DeclarationChecks.{check_tag}

-- one of the functions that are defined before the place has the name
abbrev pub is_defined_before : RawProgram → Scope → Bytes → Bool
is_defined_before raw scope name = list_any (λ (f : RawHead). bytes_eq f.name name) (take scope.functions (defined_functions raw))

abbrev pub is_variable : Option Meaning → Bool
is_variable None = false
is_variable (Some Meaning.Function) = false
is_variable (Some (Meaning.Variable id t)) = true

module _ (raw : RawProgram) (scope : Scope) where
  -- the name of a function that is declared, and the tag of its result
  abbrev pub check_head : RawHead → Verdict
  check_head head =
      then_kept (all_kept (check_tag raw scope) (tags_if head.result))
      (unless_broken (not (is_variable (meaning_here scope head.name))) 2
      (unless_broken (not (is_library_name head.name)) 4 kept))

  abbrev pub check_prototype : RawHead → Verdict
  check_prototype head =
      then_kept (check_head head)
      (unless_broken (not (is_main head.name)) 5
      (given_or 6 (λ (f : RawHead). unless_broken (same_signature raw head f) 6 kept) (definition_of raw head.name)))

  -- main is `int main(void)`
  abbrev pub check_main : RawHead → Verdict
  check_main head = unless_broken (gives_int head.result) 5 (unless_broken (length head.params == 0) 5 kept)

  abbrev pub check_definition : RawHead → Verdict
  check_definition head =
      then_kept (check_head head)
      (unless_broken (not (is_defined_before raw scope head.name)) 2 (if is_main head.name then check_main head else kept))

  -- the name of a prototype's parameter, behind others
  abbrev pub check_taken : List RawParam → Bytes → Verdict
  check_taken before name =
      unless_broken (not (list_any (λ (q : RawParam). has_name name q.name) before)) 2 (unless_broken (not (is_library_name name)) 4 kept)

  -- the parameter of a prototype, behind others
  abbrev pub check_parameter : List RawParam → RawParam → Verdict
  check_parameter before p = then_kept (all_kept (check_tag raw scope) (tags_in p.shape)) (when_given (check_taken before) p.name)

  -- the end of a definition
  abbrev pub check_end : RawHead → List RawStatement → Verdict
  check_end head body = unless_broken (is_main head.name || (is_none head.result || ends_with_value body)) 18 kept

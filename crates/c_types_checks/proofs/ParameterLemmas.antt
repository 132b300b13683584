-- The check of a prototype's parameter, once its tags are.
use Rattle.std.proofs.Common.{◌≡◌, List, Bool, true, false, Some, Result, Err, sym, ap, subst, ◌∙◌}
use Rattle.std.specs.Prelude.{not}
use Rattle.std.specs.List.{list_any}
use Rattle.c_tree.specs.declared.raw.program.RawParam.{RawParam}
use Rattle.c_tree.specs.declared.raw.program.RawProgram.{RawProgram}
use Rattle.c_language.specs.Scopes.{Scope}
use Rattle.c_language.specs.Uses.{tags_in, is_library_name}
use Rattle.c_language.specs.Words.{Bytes}
use Rattle.c_types_base.specs.declared.fault.Fault.{Fault}
use Rattle.c_types_checks.specs.Checking.{Verdict, kept, unless_broken, when_given, then_kept, all_kept, Decides}
use Rattle.c_types_checks.specs.DeclarationChecks.{check_tag}
use Rattle.c_types_checks.specs.HeadChecks.{check_taken, check_parameter}
use Rattle.c_types_base.specs.Listing.{has_name}

module _ (raw : RawProgram) (scope : Scope) (before : List RawParam) (p : RawParam) (name : Bytes) (is : p.name ≡ Some name)
    (tags : all_kept (check_tag raw scope) (tags_in p.shape) ≡ kept) where
  taken_after : check_parameter raw scope before p ≡ check_taken raw scope before name
  taken_after = ap (λ (v : Verdict). then_kept v (when_given (check_taken raw scope before) p.name)) tags ∙ ap (when_given (check_taken raw scope before)) is

  by_name : (b : Bool) → b ≡ list_any (λ (q : RawParam). has_name name q.name) before
      → check_parameter raw scope before p ≡ unless_broken (not b) 2 (unless_broken (not (is_library_name name)) 4 kept)
  by_name b told = taken_after ∙ ap (λ (c : Bool). unless_broken (not c) 2 (unless_broken (not (is_library_name name)) 4 kept)) (sym told)

  -- a parameter before it has the name
  pub taken_named : true ≡ list_any (λ (q : RawParam). has_name name q.name) before → check_parameter raw scope before p ≡ Err 2
  taken_named told = by_name true told

  -- none has
  pub taken_fresh : false ≡ list_any (λ (q : RawParam). has_name name q.name) before → (x : Result (Unit {0}) Fault) (b : Bool) → b ≡ is_library_name name
      → Decides (unless_broken (not b) 4 kept) x → Decides (check_parameter raw scope before p) x
  taken_fresh told x b same h =
      subst (λ (v : Verdict). Decides v x) (ap (λ (c : Bool). unless_broken (not c) 4 kept) same ∙ sym (by_name false told)) h

-- The checks of allocations: the numbers of the rules that they break, or none.
use Rattle.std.specs.Prelude.{is_none, Bool, true, false, not, ◌||◌, Option, Some, None, option_and_then, option_map}
use Rattle.c_tree.specs.declared.raw.expr.RawExpr.{RawExpr}
use Rattle.c_tree.specs.declared.raw.program.RawProgram.{RawProgram}
use Rattle.c_tree.specs.declared.raw.statement.RawTarget.{RawTarget}
use Rattle.c_tree.specs.declared.raw.statement.RawTypeName.{RawTypeName}
use Rattle.c_tree.specs.declared.raw.statement.RawSize.{RawSize}
use Rattle.c_tree.specs.declared.raw.statement.RawSize.TheVariants as size
use Rattle.c_tree.specs.declared.raw.statement.RawAmount.{RawAmount}
use Rattle.c_tree.specs.declared.raw.statement.RawAmount.TheVariants as amount
use Rattle.c_language.specs.DeclaredTypes.{has_stdlib, written_type}
use Rattle.c_language.specs.Scopes.{Scope, Meaning, meaning_in}
use Rattle.c_language.specs.ExprTypes.{value_type, integer_of, target_of, is_integer, is_pointer, same_type}
use Rattle.c_language.specs.ExprRules.{is_complete}
use Rattle.c_language.specs.CallRules.{is_char}
use Rattle.c_language.specs.TypeGrammar.{named_type}
use Rattle.c_language.specs.Uses.{counts, sizes, tags_if, tags_of_size}
use Rattle.c_language.specs.declared.expr_type.ExprType.{ExprType}
use Rattle.c_types_checks.specs.Checking.{Verdict, kept, unless_broken, given_or, when_given, then_kept, all_kept, judging}
use Rattle.c_types_checks.specs.DeclarationChecks.{check_tag}
use Rattle.c_types_checks.specs.CallChecks.{check_target}

-- the type is that of the objects, where there are any
abbrev pub is_same : ExprType → Option ExprType → Bool
is_same u None = true
is_same u (Some object) = same_type u object

abbrev pub is_count : RawAmount → Bool
is_count (amount.Size s) = false
is_count (amount.CountSize e s) = false
is_count (amount.SizeCount s e) = false
is_count (amount.Count e) = true

module _ (raw : RawProgram) (scope : Scope) where
  -- a size is that of a type, which is complete, and that of the objects
  abbrev pub check_object : Option ExprType → ExprType → Verdict
  check_object object u = unless_broken (is_complete scope u) 7 (unless_broken (is_same u object) 20 kept)

  -- `sizeof *p` by what p points to
  abbrev pub check_pointed : Option ExprType → Option ExprType → Verdict
  check_pointed object None = unless_broken (is_none object) 20 kept
  check_pointed object (Some u) = check_object object u

  abbrev pub check_pointee : Option ExprType → Meaning → Verdict
  check_pointee object Meaning.Function = unless_broken (is_none object) 20 kept
  check_pointee object (Meaning.Variable id t) = when_given (λ (t : ExprType). check_pointed object (target_of (value_type t))) t

  abbrev pub check_size : Option ExprType → RawSize → Verdict
  check_size object (size.Type t) = when_given (check_object object) (written_type raw (named_type t))
  check_size object (size.Pointee name closed) = given_or 1 (check_pointee object) (meaning_in scope name)

  abbrev pub check_factor : RawExpr → Verdict
  check_factor e = judging raw scope e (λ x. unless_broken (is_integer x.shape) 20 kept)

  -- bytes alone are allocated for characters
  abbrev pub check_bytes : RawAmount → ExprType → Verdict
  check_bytes n object = unless_broken (not (is_count n) || is_char (integer_of object)) 20 kept

  abbrev pub check_amount : RawAmount → Option ExprType → Verdict
  check_amount n object =
      then_kept (all_kept check_factor (counts n)) (then_kept (all_kept (check_size object) (sizes n)) (when_given (check_bytes n) object))

  -- the type of a cast
  abbrev pub cast_type : Option RawTypeName → Option ExprType
  cast_type cast = option_and_then (λ (c : RawTypeName). written_type raw (named_type c)) cast

  abbrev pub check_pointer : Option RawTypeName → ExprType → Verdict
  check_pointer cast t =
      unless_broken (is_pointer t) 20 (when_given (λ (u : ExprType). unless_broken (same_type t u) 20 kept) (cast_type cast))

  abbrev pub check_tags : Option RawTypeName → RawAmount → Verdict
  check_tags cast n =
      then_kept (all_kept (check_tag raw scope) (tags_if (option_map (λ (t : RawTypeName). t.base) cast)))
      (all_kept (check_tag raw scope) (tags_of_size (sizes n)))

  abbrev pub check_allocation : RawTarget → Option RawTypeName → RawAmount → Verdict
  check_allocation to cast n =
      unless_broken (has_stdlib raw) 24 (then_kept (check_tags cast n) (check_target raw scope to (λ (t : Option ExprType).
      then_kept (when_given (check_pointer cast) t) (check_amount n (option_and_then target_of t)))))

-- The checks of calls: the numbers of the rules that they break, or none.
use Rattle.std.specs.Prelude.{is_some, ℕ, ◌==◌, Bool, true, false, not, ◌||◌, List, [], ◌∷◌, length, bytes_eq, codes, Option, Some, None, Err, if◌then◌else◌}
use Rattle.std.specs.List.{list_any}
use Rattle.c_arith.specs.declared.int_type.IntType.TheVariants.{Int}
use Rattle.c_tree.specs.declared.raw.expr.RawExpr.{RawExpr}
use Rattle.c_tree.specs.declared.raw.program.RawInit.TheVariants as init
use Rattle.c_tree.specs.declared.raw.program.RawHead.{RawHead}
use Rattle.c_tree.specs.declared.raw.program.RawProgram.{RawProgram}
use Rattle.c_tree.specs.declared.raw.statement.RawTarget.{RawTarget}
use Rattle.c_tree.specs.declared.raw.statement.RawTarget.TheVariants as target
use Rattle.c_tree.specs.declared.raw.statement.RawArg.{RawArg}
use Rattle.c_tree.specs.declared.raw.statement.RawArg.TheVariants as arg
use Rattle.c_language.specs.Words.{Bytes}
use Rattle.c_language.specs.Constants.{literal_bytes}
use Rattle.c_language.specs.DeclaredTypes.{has_stdio, has_stdlib, definition_of, parameter_types, result_type, variable_type, integer}
use Rattle.c_language.specs.Scopes.{Scope, meaning_in}
use Rattle.c_language.specs.NameRules.{is_main}
use Rattle.c_language.specs.ExprTypes.{a_value, value_type, integer_of, is_integer, is_pointer, is_scalar, is_assignable}
use Rattle.c_language.specs.ExprRules.{is_function}
use Rattle.c_language.specs.Formats.{Conversion, Piece, format_pieces, conversions, conversion_width}
use Rattle.c_language.specs.CallRules.{format_in, later_args, has_width, only_arg}
use Rattle.c_language.specs.Phrases.{Stand, InFile, InHead, InBlock, InArm, InFor}
use Rattle.c_language.specs.declared.expr_type.ExprType.{ExprType}
use Rattle.c_language.specs.declared.expr_type.Operand.{Operand}
use Rattle.c_types_checks.specs.Checking.{Verdict, kept, unless_broken, given_or, when_given, then_kept, judging, is_target}

-- nothing is stored
abbrev pub is_no_target : RawTarget → Bool
is_no_target target.None = true
is_no_target (target.Place e) = false
is_no_target (target.Declared var) = false

-- the first part of a for declares the target
abbrev pub begins_for : Stand → RawTarget → Bool
begins_for InFor (target.Declared var) = true
begins_for InFor target.None = false
begins_for InFor (target.Place e) = false
begins_for (InFile is_static) to = false
begins_for InHead to = false
begins_for InBlock to = false
begins_for InArm to = false

-- an argument for a parameter of the type, where the type is known
abbrev pub fits_parameter : Option ExprType → Operand → Bool
fits_parameter None x = true
fits_parameter (Some t) x = is_assignable t x

abbrev pub fits_conversion : Conversion → Operand → Bool
fits_conversion c x = has_width (conversion_width c) (integer_of x.shape)

abbrev pub has_null_byte : Bytes → Bool
has_null_byte text = list_any (λ (b : ℕ). b == 0) (literal_bytes text)

module _ (raw : RawProgram) (scope : Scope) where
  -- what a result is stored in, and a check by its type
  abbrev pub check_target : RawTarget → (Option ExprType → Verdict) → Verdict
  check_target target.None f = f None
  check_target (target.Place e) f = judging raw scope e (λ x. unless_broken (is_target raw scope x) 14 (f (Some x.shape)))
  check_target (target.Declared var) f =
      then_kept (when_given (λ (t : ExprType). unless_broken (is_scalar t) 22 kept) (variable_type raw var init.None)) (f (variable_type raw var init.None))

  -- arguments, each for what is wanted of it
  abbrev pub check_each : {A : Type 0} → ℕ → (A → Operand → Bool) → List A → List RawArg → Verdict
  check_each n fits wanted [] = kept
  check_each n fits [] (arg.Value e ∷ args) = judging raw scope e (λ x. check_each n fits [] args)
  check_each n fits [] (arg.Literal text ∷ args) = check_each n fits [] args
  check_each n fits (w ∷ ws) (arg.Value e ∷ args) = judging raw scope e (λ x. unless_broken (fits w x) n (check_each n fits ws args))
  check_each n fits (w ∷ ws) (arg.Literal text ∷ args) = Err n

  abbrev pub check_stored_result : Option ExprType → ExprType → Verdict
  check_stored_result t r = when_given (λ (t : ExprType). unless_broken (is_assignable t (a_value r)) 17 kept) t

  -- the result of a function of the program
  abbrev pub check_result : RawTarget → Option ExprType → RawHead → Verdict
  check_result to t head =
      unless_broken (is_no_target to || is_some head.result) 17 (when_given (check_stored_result t) (result_type raw head))

  -- a call of a function with the head
  abbrev pub check_against : RawTarget → List RawArg → Option ExprType → RawHead → Verdict
  check_against to args t head =
      unless_broken (length args == length head.params) 16
      (then_kept (check_each 16 fits_parameter (parameter_types raw head) args) (check_result to t head))

  -- a call of a function of the program
  abbrev pub check_own : Stand → RawTarget → Bytes → List RawArg → Option ExprType → Verdict
  check_own stand to f args t =
      unless_broken (is_function (meaning_in scope f)) 1
      (unless_broken (not (begins_for stand to)) 23 (when_given (check_against to args t) (definition_of raw f)))

  -- the one argument of a function of the library
  abbrev pub check_only : (Operand → Bool) → List RawArg → Verdict
  check_only fits args = given_or 21 (λ (e : RawExpr). judging raw scope e (λ x. unless_broken (fits x) 21 kept)) (only_arg args)

  abbrev pub check_free : RawTarget → List RawArg → Verdict
  check_free to args =
      unless_broken (has_stdlib raw) 24 (unless_broken (is_no_target to) 17 (check_only (λ x. is_pointer (value_type x.shape)) args))

  abbrev pub check_putchar : RawTarget → List RawArg → Verdict
  check_putchar to args =
      unless_broken (has_stdio raw) 24 (unless_broken (is_no_target to) 17 (check_only (λ x. is_integer x.shape) args))

  abbrev pub check_getchar : List RawArg → Option ExprType → Verdict
  check_getchar args t =
      unless_broken (has_stdio raw) 24 (unless_broken (length args == 0) 21 (check_stored_result t (integer Int)))

  abbrev pub check_pieces : List RawArg → List Piece → Verdict
  check_pieces args ps =
      unless_broken (length args == length (conversions ps)) 19 (check_each 19 fits_conversion (conversions ps) args)

  abbrev pub check_format : List RawArg → Bytes → Verdict
  check_format args text = unless_broken (not (has_null_byte text)) 19 (given_or 19 (check_pieces args) (format_pieces (literal_bytes text)))

  abbrev pub check_printf : RawTarget → List RawArg → Verdict
  check_printf to args =
      unless_broken (has_stdio raw) 24 (unless_broken (is_no_target to) 17 (given_or 19 (check_format (later_args args)) (format_in args)))

  -- a call by the name of its function
  abbrev pub check_named : Stand → RawTarget → Bytes → List RawArg → Option ExprType → Verdict
  check_named stand to f args t =
      if bytes_eq f (codes "free") then check_free to args
      else (if bytes_eq f (codes "putchar") then check_putchar to args
      else (if bytes_eq f (codes "getchar") then check_getchar args t
      else (if bytes_eq f (codes "printf") then check_printf to args
      else check_own stand to f args t)))

  abbrev pub check_call : Stand → RawTarget → Bytes → List RawArg → Verdict
  check_call stand to f args =
      unless_broken (not (is_main f)) 5
      (unless_broken (not (is_function (meaning_in scope f)) || is_some (definition_of raw f)) 6
      (check_target to (check_named stand to f args)))

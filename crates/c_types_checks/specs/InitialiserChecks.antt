-- The checks of initialisers: the numbers of the rules that they break, or none.
use Rattle.std.specs.Prelude.{is_some, nat_lt, ℕ, Bool, true, not, ◌&&◌, ◌||◌, List, length, Option, Some, None, option_and_then}
use Rattle.c_tree.specs.declared.raw.expr.RawExpr.{RawExpr}
use Rattle.c_tree.specs.declared.raw.expr.RawVar.{RawVar}
use Rattle.c_tree.specs.declared.raw.program.RawInit.{RawInit}
use Rattle.c_tree.specs.declared.raw.program.RawInit.TheVariants as init
use Rattle.c_tree.specs.declared.raw.program.RawProgram.{RawProgram}
use Rattle.c_language.specs.ConstantEvaluation.{value_of_constant}
use Rattle.c_language.specs.DeclaredTypes.{variable_type}
use Rattle.c_language.specs.Scopes.{Scope}
use Rattle.c_language.specs.ExprTypes.{is_scalar, is_pointer, is_assignable}
use Rattle.c_language.specs.Phrases.{Stand, InFile, InHead, InBlock, InArm, InFor}
use Rattle.c_language.specs.Uses.{is_null_name}
use Rattle.c_language.specs.ArrayRules.{element_of, count_of}
use Rattle.c_language.specs.declared.expr_type.ExprType.{ExprType}
use Rattle.c_language.specs.declared.expr_type.Operand.{Operand}
use Rattle.c_types_checks.specs.Checking.{Verdict, kept, unless_broken, given_or, when_given, then_kept, all_kept, judging}

-- an initialiser is a constant for an object of the type
abbrev pub is_constant_for : ExprType → RawExpr → Bool
is_constant_for t e = is_some (value_of_constant e) || (is_null_name e && is_pointer t)

-- so many items are no more than there are elements
abbrev pub are_few : ℕ → Option ℕ → Bool
are_few items None = true
are_few items (Some n) = not (nat_lt n items)

module _ (raw : RawProgram) (scope : Scope) where
  -- an initialiser of a global is a constant
  abbrev pub check_constant : Stand → ExprType → RawExpr → Verdict
  check_constant (InFile is_static) t e = unless_broken (is_constant_for t e) 10 kept
  check_constant InHead t e = kept
  check_constant InBlock t e = kept
  check_constant InArm t e = kept
  check_constant InFor t e = kept

  -- the first value of an object of the type
  abbrev pub check_first : Stand → RawExpr → Operand → ExprType → Verdict
  check_first stand e y t = unless_broken (is_scalar t) 22 (unless_broken (is_assignable t y) 13 (check_constant stand t e))

  -- an item of a list, for an element of the type
  abbrev pub check_item : Stand → Option ExprType → RawExpr → Verdict
  check_item stand element e =
      judging raw scope e (λ y. when_given (λ (t : ExprType). unless_broken (is_assignable t y) 22 (check_constant stand t e)) element)

  -- so many items, for an object of the type
  abbrev pub check_listed : ℕ → ExprType → Verdict
  check_listed items t =
      given_or 22 (λ (u : ExprType). unless_broken (is_scalar u) 22 (unless_broken (are_few items (count_of t)) 22 kept)) (element_of t)

  abbrev pub check_items : Stand → List RawExpr → Option ExprType → Verdict
  check_items stand es t = then_kept (all_kept (check_item stand (option_and_then element_of t)) es) (when_given (check_listed (length es)) t)

  -- an initialiser
  abbrev pub check_begun : Stand → RawVar → RawInit → Verdict
  check_begun stand var init.None = kept
  check_begun stand var (init.One e) = judging raw scope e (λ y. when_given (check_first stand e y) (variable_type raw var (init.One e)))
  check_begun stand var (init.Items es) = check_items stand es (variable_type raw var (init.Items es))

-- The check of a phrase: the number of a rule that it breaks, or none.
use Rattle.std.specs.Prelude.{◌≡◌, ◌<◌, is_some, is_none, ℕ, Bool, true, false, not, ◌&&◌, List, [], ◌∷◌, Option, Some, None, Result, Ok, Err}
use Rattle.c_arith.specs.declared.operators.BinaryOp.{BinaryOp}
use Rattle.c_arith.specs.declared.operators.BinaryOp.TheVariants.{Add}
use Rattle.c_tree.specs.declared.raw.expr.RawExpr.{RawExpr}
use Rattle.c_tree.specs.declared.raw.program.RawHead.{RawHead}
use Rattle.c_tree.specs.declared.raw.program.RawProgram.{RawProgram}
use Rattle.c_language.specs.DeclaredTypes.{result_type}
use Rattle.c_language.specs.Scopes.{Scope}
use Rattle.c_language.specs.ExprTypes.{a_value, value_type, is_scalar, binary_result, is_assignable}
use Rattle.c_language.specs.ExprRules.{points_to_incomplete, moves_incomplete}
use Rattle.c_language.specs.CallRules.{head_around}
use Rattle.c_language.specs.TypeRules.{one}
use Rattle.c_language.specs.declared.expr_type.ExprType.{ExprType}
use Rattle.c_language.specs.declared.expr_type.Operand.{Operand}
use Rattle.c_types_base.specs.Judging.{then_judge, judged}
use Rattle.c_types_base.specs.declared.fault.Fault.{Fault}
use Rattle.c_types_base.specs.declared.fault.Fault.TheVariants.{Rule, NoMemory}

-- no rule is broken, or the one with the number is
abbrev pub Verdict : Type 0
Verdict = Result (Unit {0}) ℕ

abbrev pub kept : Verdict
kept = Ok tt

-- where the test passes, the rest, and else the rule is broken
abbrev pub unless_broken : Bool → ℕ → Verdict → Verdict
unless_broken true n rest = rest
unless_broken false n rest = Err n

-- the value, or the rule that is broken where there is none
abbrev pub given_or : {A : Type 0} → ℕ → (A → Verdict) → Option A → Verdict
given_or n f None = Err n
given_or n f (Some x) = f x

-- where there is a value, its check
abbrev pub when_given : {A : Type 0} → (A → Verdict) → Option A → Verdict
when_given f None = kept
when_given f (Some x) = f x

-- one check, and then another
abbrev pub then_kept : Verdict → Verdict → Verdict
then_kept (Ok x) rest = rest
then_kept (Err n) rest = Err n

-- the checks of a list, from the left
abbrev pub all_kept : {A : Type 0} → (A → Verdict) → List A → Verdict
all_kept f [] = kept
all_kept f (x ∷ xs) = then_kept (f x) (all_kept f xs)

-- what code answers is the verdict, but for want of memory
abbrev pub Decides : Verdict → Result (Unit {0}) Fault → Type 0
Decides verdict (Ok x) = verdict ≡ kept
Decides verdict (Err (Rule n)) = (verdict ≡ Err n) × (0 < n)
Decides verdict (Err NoMemory) = Unit {0}

-- what an operator gives, where an object of the type takes it
abbrev pub check_given : ExprType → Option ExprType → Verdict
check_given t = given_or 12 (λ (u : ExprType). unless_broken (is_assignable t (a_value u)) 13 kept)

module _ (raw : RawProgram) (scope : Scope) where
  abbrev pub judging : RawExpr → (Operand → Verdict) → Verdict
  judging e f = then_judge f (judged raw scope e)

  -- an expression alone
  abbrev pub check_expr : RawExpr → Verdict
  check_expr e = judging e (λ x. kept)

  abbrev pub check_test : RawExpr → Verdict
  check_test e = judging e (λ x. unless_broken (is_scalar (value_type x.shape)) 12 kept)

  abbrev pub is_target : Operand → Bool
  is_target x = x.is_place && is_scalar x.shape

  abbrev pub check_compound : BinaryOp → Operand → Operand → Verdict
  check_compound op x y =
      unless_broken (not (moves_incomplete scope op (Some x) (Some y))) 7
      (check_given x.shape (binary_result op x y))

  abbrev pub check_stored : Option BinaryOp → Operand → Operand → Verdict
  check_stored None x y = unless_broken (is_assignable x.shape y) 13 kept
  check_stored (Some op) x y = check_compound op x y

  abbrev pub check_assignment : RawExpr → Option BinaryOp → RawExpr → Verdict
  check_assignment left op right =
      judging left (λ x. judging right (λ y. unless_broken (is_target x) 14 (check_stored op x y)))

  abbrev pub check_bump : RawExpr → Verdict
  check_bump left =
      judging left (λ x. unless_broken (is_target x) 14
      (unless_broken (not (points_to_incomplete scope x)) 7 (given_or 12 (λ (t : ExprType). kept) (binary_result Add x one))))

  -- a value that is returned by a function
  abbrev pub check_value : Operand → RawHead → Verdict
  check_value x head =
      unless_broken (is_some head.result) 18 (when_given (λ (t : ExprType). unless_broken (is_assignable t x) 18 kept) (result_type raw head))

  -- a return without a value
  abbrev pub check_left : RawHead → Verdict
  check_left head = unless_broken (is_none head.result) 18 kept

  -- a return, in the function around it
  abbrev pub check_return : Option RawExpr → Verdict
  check_return None = when_given check_left (head_around raw scope)
  check_return (Some e) = judging e (λ x. when_given (check_value x) (head_around raw scope))

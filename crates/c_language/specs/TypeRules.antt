-- What breaks a rule on the types of operands and of what is assigned (ISO C99 6.5, 6.8.4, 6.8.5).
use Rattle.std.specs.Prelude.{◌≡◌, true, false, List, Option, Some, None}
use Rattle.c_arith.specs.declared.int_type.IntType.TheVariants.{Int}
use Rattle.c_arith.specs.declared.operators.BinaryOp.{BinaryOp}
use Rattle.c_arith.specs.declared.operators.BinaryOp.TheVariants.{Add}
use Rattle.c_tree.specs.declared.raw.expr.RawExpr.{RawExpr}
use Rattle.c_tree.specs.declared.raw.expr.RawVar.{RawVar}
use Rattle.c_tree.specs.declared.raw.program.RawInit.TheVariants as init
use Rattle.c_tree.specs.declared.raw.program.RawProgram.{RawProgram}
use Rattle.c_tree.specs.declared.raw.statement.RawTarget.TheVariants as target
use Rattle.c_tree.specs.declared.raw.statement.RawArg.{RawArg}
use Rattle.c_tree.specs.declared.raw.statement.RawTypeName.{RawTypeName}
use Rattle.c_tree.specs.declared.raw.statement.RawAmount.{RawAmount}
use Rattle.c_language.specs.Words.{Bytes}
use Rattle.c_language.specs.DeclaredTypes.{integer, variable_type}
use Rattle.c_language.specs.Scopes.{Scope}
use Rattle.c_language.specs.ExprTypes.{a_value, operand, value_type, is_scalar, binary_result, is_assignable}
use Rattle.c_language.specs.ExprRules.{seen, has_bad_operand, has_no_address}
use Rattle.c_language.specs.Phrases.{Stand, Part, Begins, Assigns, Bumps, Calls, Allocates, Tests}
use Rattle.c_language.specs.Uses.{Holds}
use Rattle.c_language.specs.declared.expr_type.ExprType.{ExprType}
use Rattle.c_language.specs.declared.expr_type.Operand.{Operand}

-- the operand 1 of `++` and `--`
abbrev pub one : Operand
one = a_value (integer Int)

-- an operator, a compound assignment, `++` or `--` has operands that it doesn't take, or a test is no integer and no pointer
pub data MisusesOperator (raw : RawProgram) (scope : Scope) : Part → Type 0 where
  in_expression : {part : Part} {inner : RawExpr} → Holds part inner → has_bad_operand scope (seen raw scope inner) ≡ true → MisusesOperator raw scope part
  test : {test : RawExpr} {x : Operand} → operand raw scope test ≡ Some x → is_scalar (value_type x.shape) ≡ false → MisusesOperator raw scope (Tests test)
  compound : {left right : RawExpr} {op : BinaryOp} {x y : Operand}
      → operand raw scope left ≡ Some x → operand raw scope right ≡ Some y → binary_result op x y ≡ None
      → MisusesOperator raw scope (Assigns left (Some op) right)
  bump : {left : RawExpr} {x : Operand} → operand raw scope left ≡ Some x → binary_result Add x one ≡ None → MisusesOperator raw scope (Bumps left)

-- what is assigned to an integer or a pointer has another type (6.5.16.1)
pub data AssignsOtherType (raw : RawProgram) (scope : Scope) : Part → Type 0 where
  simple : {left right : RawExpr} {x y : Operand}
      → operand raw scope left ≡ Some x → operand raw scope right ≡ Some y → is_scalar x.shape ≡ true → is_assignable x.shape y ≡ false
      → AssignsOtherType raw scope (Assigns left None right)
  compound : {left right : RawExpr} {op : BinaryOp} {x y : Operand} {t : ExprType}
      → operand raw scope left ≡ Some x → operand raw scope right ≡ Some y → binary_result op x y ≡ Some t
      → is_scalar x.shape ≡ true → is_assignable x.shape (a_value t) ≡ false
      → AssignsOtherType raw scope (Assigns left (Some op) right)
  initialiser : {stand : Stand} {var : RawVar} {right : RawExpr} {t : ExprType} {y : Operand}
      → variable_type raw var (init.One right) ≡ Some t → operand raw scope right ≡ Some y → is_scalar t ≡ true → is_assignable t y ≡ false
      → AssignsOtherType raw scope (Begins stand var (init.One right))

-- an expression is no place of integer or pointer type (6.3.2.1)
pub data IsNoTarget (raw : RawProgram) (scope : Scope) (left : RawExpr) : Type 0 where
  no_place : {x : Operand} → operand raw scope left ≡ Some x → x.is_place ≡ false → IsNoTarget raw scope left
  no_scalar : {x : Operand} → operand raw scope left ≡ Some x → is_scalar x.shape ≡ false → IsNoTarget raw scope left

-- what is assigned is no place of integer or pointer type
pub data AssignsNoPlace (raw : RawProgram) (scope : Scope) : Part → Type 0 where
  assignment : {left right : RawExpr} {op : Option BinaryOp} → IsNoTarget raw scope left → AssignsNoPlace raw scope (Assigns left op right)
  bump : {left : RawExpr} → IsNoTarget raw scope left → AssignsNoPlace raw scope (Bumps left)
  result : {left : RawExpr} {stand : Stand} {f : Bytes} {args : List RawArg}
      → IsNoTarget raw scope left → AssignsNoPlace raw scope (Calls stand (target.Place left) f args)
  allocation : {left : RawExpr} {cast : Option RawTypeName} {n : RawAmount}
      → IsNoTarget raw scope left → AssignsNoPlace raw scope (Allocates (target.Place left) cast n)

-- the address is taken of what has none
pub data MisusesAddress (raw : RawProgram) (scope : Scope) : Part → Type 0 where
  in_expression : {part : Part} {inner : RawExpr} → Holds part inner → has_no_address (seen raw scope inner) ≡ true → MisusesAddress raw scope part

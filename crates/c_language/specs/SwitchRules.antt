-- What breaks a rule on switches (ISO C99 6.8.4.2) and on where a declaration stands.
use Rattle.std.specs.Prelude.{◌≡◌, ℤ, false, List, ◌∷◌, Some, None, Contains}
use Rattle.c_arith.specs.declared.int_type.IntType.{IntType}
use Rattle.c_arith.specs.IntType.{promote, convert}
use Rattle.c_tree.specs.declared.raw.expr.RawExpr.{RawExpr}
use Rattle.c_tree.specs.declared.raw.expr.RawVar.{RawVar}
use Rattle.c_tree.specs.declared.raw.program.RawInit.{RawInit}
use Rattle.c_tree.specs.declared.raw.program.RawProgram.{RawProgram}
use Rattle.c_tree.specs.declared.raw.statement.RawTarget.TheVariants as target
use Rattle.c_tree.specs.declared.raw.statement.RawArg.{RawArg}
use Rattle.c_tree.specs.declared.raw.statement.RawLabel.{RawLabel}
use Rattle.c_tree.specs.declared.raw.statement.RawLabel.TheVariants as label
use Rattle.c_language.specs.Words.{Bytes}
use Rattle.c_language.specs.ConstantEvaluation.{value_of_constant}
use Rattle.c_language.specs.Scopes.{Scope}
use Rattle.c_language.specs.ExprTypes.{operand, integer_of}
use Rattle.c_language.specs.declared.expr_type.Operand.{Operand}
use Rattle.c_language.specs.Phrases.{InArm, InFor, Part, Declares, Calls, Switches}
use Rattle.c_language.specs.Uses.{is_library_function}

-- two members of a list, one before the other, are in the relation
pub data HasTwo {A : Type 0} (R : A → A → Type 0) : List A → Type 0 where
  first : {x y : A} {rest : List A} → Contains rest y → R x y → HasTwo R (x ∷ rest)
  later : {x : A} {rest : List A} → HasTwo R rest → HasTwo R (x ∷ rest)

-- two labels have the same value, once it is converted to the type
pub data SameCase (t : IntType) : RawLabel → RawLabel → Type 0 where
  same : {a b : RawExpr} {v w : ℤ}
      → value_of_constant a ≡ Some v → value_of_constant b ≡ Some w → convert v t ≡ convert w t → SameCase t (label.Case a) (label.Case b)

-- two labels are both default
pub data BothDefault : RawLabel → RawLabel → Type 0 where
  both : BothDefault label.Default label.Default

-- a switch is over no integer, or has two equal labels, or two defaults
pub data MisusesSwitch (raw : RawProgram) (scope : Scope) : Part → Type 0 where
  no_integer : {test : RawExpr} {labels : List RawLabel} {x : Operand}
      → operand raw scope test ≡ Some x → integer_of x.shape ≡ None → MisusesSwitch raw scope (Switches test labels)
  equal_labels : {test : RawExpr} {labels : List RawLabel} {x : Operand} {t : IntType}
      → operand raw scope test ≡ Some x → integer_of x.shape ≡ Some t → HasTwo (SameCase (promote t)) labels
      → MisusesSwitch raw scope (Switches test labels)
  defaults : {test : RawExpr} {labels : List RawLabel} → HasTwo BothDefault labels → MisusesSwitch raw scope (Switches test labels)

-- a declaration stands directly in an arm of a switch, or that of a for is initialised by a call of a function of the program
pub data MisplacesDeclaration (raw : RawProgram) (scope : Scope) : Part → Type 0 where
  in_arm : {var : RawVar} {i : RawInit} → MisplacesDeclaration raw scope (Declares InArm var i)
  in_for : {var : RawVar} {f : Bytes} {args : List RawArg}
      → is_library_function f ≡ false → MisplacesDeclaration raw scope (Calls InFor (target.Declared var) f args)

-- What breaks a rule on arrays, their lengths and initialisers (ISO C99 6.6, 6.7.5.2, 6.7.8).
use Rattle.std.specs.Prelude.{◌≡◌, ℕ, ◌<◌, ℤ, Bool, false, List, [], ◌∷◌, length, Option, Some, None, Contains}
use Rattle.c_tree.specs.declared.raw.expr.RawExpr.{RawExpr}
use Rattle.c_tree.specs.declared.raw.expr.RawVar.{RawVar}
use Rattle.c_tree.specs.declared.raw.program.RawInit.TheVariants as init
use Rattle.c_tree.specs.declared.raw.program.RawProgram.{RawProgram}
use Rattle.c_tree.specs.declared.raw.statement.RawTarget.TheVariants as target
use Rattle.c_tree.specs.declared.raw.statement.RawArg.{RawArg}
use Rattle.c_tree.specs.declared.raw.statement.RawAmount.{RawAmount}
use Rattle.c_tree.specs.declared.raw.statement.RawLabel.{RawLabel}
use Rattle.c_tree.specs.declared.raw.statement.RawTypeName.{RawTypeName}
use Rattle.c_language.specs.Words.{Bytes}
use Rattle.c_language.specs.ConstantEvaluation.{value_of_constant}
use Rattle.c_language.specs.DeclaredTypes.{positive, variable_type}
use Rattle.c_language.specs.Scopes.{Scope}
use Rattle.c_language.specs.ExprTypes.{operand, is_pointer, is_scalar, is_assignable}
use Rattle.c_language.specs.Phrases.{Stand, InFile, Part, Begins, Calls, Allocates, Switches}
use Rattle.c_language.specs.Uses.{is_null_name, lengths_of, cases}
use Rattle.c_language.specs.declared.expr_type.Layer.{Layer}
use Rattle.c_language.specs.declared.expr_type.Layer.TheVariants.{Pointer, Array}
use Rattle.c_language.specs.declared.expr_type.Base.{Base}
use Rattle.c_language.specs.declared.expr_type.ExprType.{ExprType}
use Rattle.c_language.specs.declared.expr_type.Operand.{Operand}

abbrev pub element_in : List Layer → Base → Option ExprType
element_in [] b = None
element_in (Pointer ∷ ls) b = None
element_in (Array n ∷ ls) b = Some (record { layers = ls; base = b })

-- the type of an array's elements
abbrev pub element_of : ExprType → Option ExprType
element_of t = element_in t.layers t.base

abbrev pub count_in : List Layer → Option ℕ
count_in [] = None
count_in (Pointer ∷ ls) = None
count_in (Array n ∷ ls) = Some n

-- how many elements an array has
abbrev pub count_of : ExprType → Option ℕ
count_of t = count_in t.layers

-- an array has a length below 1
pub data HasNoElement : Part → Type 0 where
  too_short : {part : Part} {n : RawExpr} {z : ℤ}
      → Contains (lengths_of part) n → value_of_constant n ≡ Some z → positive z ≡ None → HasNoElement part

-- an initialiser of an object of static storage duration is no constant (6.7.8, paragraph 4); for a pointer, NULL is one
pub data IsNoConstant (t : ExprType) : RawExpr → Type 0 where
  other : (e : RawExpr) → value_of_constant e ≡ None → is_null_name e ≡ false → IsNoConstant t e
  null : (e : RawExpr) → value_of_constant e ≡ None → is_pointer t ≡ false → IsNoConstant t e

-- an array length, a case label or an initialiser of a global is no constant expression (6.6), or its evaluation has an undefined act
pub data LacksConstant (raw : RawProgram) (scope : Scope) : Part → Type 0 where
  written_length : {part : Part} {n : RawExpr} → Contains (lengths_of part) n → value_of_constant n ≡ None → LacksConstant raw scope part
  label : {test : RawExpr} {labels : List RawLabel} {e : RawExpr}
      → Contains (cases labels) e → value_of_constant e ≡ None → LacksConstant raw scope (Switches test labels)
  global : {is_static : Bool} {var : RawVar} {e : RawExpr} {t : ExprType}
      → variable_type raw var (init.One e) ≡ Some t → IsNoConstant t e → LacksConstant raw scope (Begins (InFile is_static) var (init.One e))
  item : {is_static : Bool} {var : RawVar} {es : List RawExpr} {e : RawExpr} {array t : ExprType}
      → variable_type raw var (init.Items es) ≡ Some array → element_of array ≡ Some t → Contains es e → IsNoConstant t e
      → LacksConstant raw scope (Begins (InFile is_static) var (init.Items es))

-- an item of a list, for an element of the type, isn't assignable
abbrev pub HasUnfit : RawProgram → Scope → ExprType → List RawExpr → Type 0
HasUnfit raw scope t es = (e : RawExpr) × Contains es e × ((x : Operand) × (operand raw scope e ≡ Some x) × (is_assignable t x ≡ false))

-- a list initialises what is no array of integers or pointers, or has too many items or one that isn't assignable; or an array or a struct is initialised by something else
pub data MisusesInitialiser (raw : RawProgram) (scope : Scope) : Part → Type 0 where
  no_array : {stand : Stand} {var : RawVar} {es : List RawExpr} {t : ExprType}
      → variable_type raw var (init.Items es) ≡ Some t → element_of t ≡ None → MisusesInitialiser raw scope (Begins stand var (init.Items es))
  no_scalars : {stand : Stand} {var : RawVar} {es : List RawExpr} {t element : ExprType}
      → variable_type raw var (init.Items es) ≡ Some t → element_of t ≡ Some element → is_scalar element ≡ false
      → MisusesInitialiser raw scope (Begins stand var (init.Items es))
  too_many : {stand : Stand} {var : RawVar} {es : List RawExpr} {t : ExprType} {n : ℕ}
      → variable_type raw var (init.Items es) ≡ Some t → count_of t ≡ Some n → n < length es
      → MisusesInitialiser raw scope (Begins stand var (init.Items es))
  unfit : {stand : Stand} {var : RawVar} {es : List RawExpr} {t element : ExprType}
      → variable_type raw var (init.Items es) ≡ Some t → element_of t ≡ Some element → HasUnfit raw scope element es
      → MisusesInitialiser raw scope (Begins stand var (init.Items es))
  whole : {stand : Stand} {var : RawVar} {e : RawExpr} {t : ExprType}
      → variable_type raw var (init.One e) ≡ Some t → is_scalar t ≡ false → MisusesInitialiser raw scope (Begins stand var (init.One e))
  by_call : {stand : Stand} {var : RawVar} {f : Bytes} {args : List RawArg} {t : ExprType}
      → variable_type raw var init.None ≡ Some t → is_scalar t ≡ false → MisusesInitialiser raw scope (Calls stand (target.Declared var) f args)
  by_allocation : {var : RawVar} {cast : Option RawTypeName} {n : RawAmount} {t : ExprType}
      → variable_type raw var init.None ≡ Some t → is_scalar t ≡ false → MisusesInitialiser raw scope (Allocates (target.Declared var) cast n)

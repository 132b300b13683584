-- What the rules on types ask of the statements of a program's tree (ISO C99 6.3.2.1, 6.5, 6.7.8, 6.8, 7.19, 7.20).
use Rattle.std.specs.Prelude.{◌≡◌, ℕ, ◌&&◌, not, nat_lt, Bool, true, false, List, [], ◌∷◌, length, Option, Some, None, option_and_then, is_none, is_some, slice_get}
use Rattle.std.specs.List.{list_all}
use Rattle.c_arith.specs.declared.operators.BinaryOp.{BinaryOp}
use Rattle.c_arith.specs.declared.operators.BinaryOp.TheVariants.{Add}
use Rattle.c_arith.specs.declared.int_type.IntType.TheVariants.{Int}
use Rattle.c_tree.specs.declared.expr.Expr.{Expr}
use Rattle.c_tree.specs.declared.program.Function.{Function}
use Rattle.c_tree.specs.declared.program.Init.{Init}
use Rattle.c_tree.specs.declared.program.Init.TheVariants as init
use Rattle.c_tree.specs.declared.program.Item.{Item}
use Rattle.c_tree.specs.declared.program.Item.TheVariants as item
use Rattle.c_tree.specs.declared.program.Program.{Program}
use Rattle.c_tree.specs.declared.statement.Amount.{Amount}
use Rattle.c_tree.specs.declared.statement.Amount.TheVariants as amount
use Rattle.c_tree.specs.declared.statement.Size.{Size}
use Rattle.c_tree.specs.declared.statement.Size.TheVariants as size
use Rattle.c_tree.specs.declared.statement.Target.{Target}
use Rattle.c_tree.specs.declared.statement.Target.TheVariants as target
use Rattle.c_tree.specs.declared.types.CType.{CType}
use Rattle.c_language.specs.ArrayRules.{element_of, count_of}
use Rattle.c_language.specs.CallRules.{has_width, is_char}
use Rattle.c_language.specs.Code.{Act, Begins, Sets, Bumps, Fetches, Writes, Prints, Allocates, Frees, Returns, Tests}
use Rattle.c_language.specs.Constants.{literal_bytes}
use Rattle.c_language.specs.DeclaredTypes.{integer}
use Rattle.c_language.specs.ExprRules.{holds_of}
use Rattle.c_language.specs.ExprTypes.{a_value, value_type, target_of, integer_of, is_integer, is_pointer, is_scalar, same_type, binary_result, is_assignable}
use Rattle.c_language.specs.Formats.{Conversion, Piece, format_pieces, conversions, conversion_width}
use Rattle.c_language.specs.TreeTypes.{shape_of}
use Rattle.c_language.specs.TypeRules.{one}
use Rattle.c_language.specs.Words.{Bytes}
use Rattle.c_language.specs.declared.expr_type.ExprType.{ExprType}
use Rattle.c_language.specs.declared.expr_type.Operand.{Operand}
use Rattle.dep_model.specs.Doings.{Doing, Does, Calls, body_doings}
use Rattle.typed_programs.specs.FixedValues.{begins_fixed}
use Rattle.typed_programs.specs.Needs.{Need, Picks, Starts, body_needs}
use Rattle.typed_programs.specs.TreeOperands.{Signature, Declarations, declarations, variable_shape, operand_of}

-- an expression is an operand that passes a test
abbrev pub passes : Declarations → (Operand → Bool) → Expr → Bool
passes d test e = holds_of test (operand_of d e)

-- what is tested: an integer or a pointer (6.8.4.1, 6.8.5)
abbrev pub is_tested : Declarations → Expr → Bool
is_tested d = passes d (λ (x : Operand). is_scalar (value_type x.shape))

abbrev pub is_number : Declarations → Expr → Bool
is_number d = passes d (λ (x : Operand). is_integer x.shape)

abbrev pub is_address : Declarations → Expr → Bool
is_address d = passes d (λ (x : Operand). is_pointer (value_type x.shape))

-- a left side: a place of integer or pointer type (6.3.2.1)
abbrev pub is_left_side : Operand → Bool
is_left_side x = x.is_place && is_scalar x.shape

-- an object of the type takes the value (6.5.16.1)
abbrev pub takes : Declarations → Expr → ExprType → Bool
takes d e t = passes d (is_assignable t) e

-- ---- assignments

-- what is assigned by `=`, or by a compound assignment (6.5.16)
abbrev pub assigns : Option BinaryOp → Operand → Operand → Bool
assigns None x y = is_assignable x.shape y
assigns (Some op) x y = holds_of (λ (t : ExprType). is_assignable x.shape (a_value t)) (binary_result op x y)

abbrev pub sets : Declarations → Expr → Option BinaryOp → Expr → Bool
sets d left op right = passes d is_left_side left && passes d (λ (x : Operand). passes d (assigns op x) right) left

abbrev pub bumps : Declarations → Expr → Bool
bumps d left = passes d is_left_side left && passes d (λ (x : Operand). is_some (binary_result Add x one)) left

-- ---- what a variable begins with (6.7.8)

-- a list for an array with so many elements of the type
abbrev pub lists : Declarations → List Expr → ExprType → ℕ → Bool
lists d es t n = is_scalar t && (not (nat_lt n (length es)) && list_all (λ (e : Expr). takes d e t) es)

abbrev pub begins_with : Declarations → Init → ExprType → Bool
begins_with d init.None t = true
begins_with d (init.One e) t = is_scalar t && takes d e t
begins_with d (init.Items es) t = holds_of (λ (element : ExprType). holds_of (lists d es element) (count_of t)) (element_of t)

abbrev pub begins : Declarations → ℕ → Init → Bool
begins d x i = holds_of (begins_with d i) (variable_shape d x)

-- ---- what calls give (6.5.2.2), and malloc (7.20.3.3)

-- where a result is stored, it is assignable
abbrev pub stores : Declarations → Target → Operand → Bool
stores d target.None y = true
stores d (target.Place e) y = passes d is_left_side e && passes d (λ (x : Operand). is_assignable x.shape y) e
stores d (target.Declared x) y = holds_of (λ (t : ExprType). is_scalar t && is_assignable t y) (variable_shape d x)

-- an argument for each parameter, which takes it
abbrev pub passed : Declarations → List ℕ → List Expr → Bool
passed d [] [] = true
passed d [] (e ∷ es) = false
passed d (x ∷ xs) [] = false
passed d (x ∷ xs) (e ∷ es) = holds_of (takes d e) (variable_shape d x) && passed d xs es

-- a result that is stored is one that the function gives
abbrev pub gives : Declarations → Target → Option CType → Bool
gives d target.None result = true
gives d (target.Place e) result = holds_of (λ (t : CType). stores d (target.Place e) (a_value (shape_of t))) result
gives d (target.Declared x) result = holds_of (λ (t : CType). stores d (target.Declared x) (a_value (shape_of t))) result

abbrev pub calls : Declarations → Target → List Expr → Signature → Bool
calls d to args f = passed d f.params args && gives d to f.result

abbrev pub size_shape : Declarations → Size → Option ExprType
size_shape d (size.Type t) = Some (shape_of t)
size_shape d (size.Pointee x closed) = option_and_then (λ (t : ExprType). target_of (value_type t)) (variable_shape d x)

-- the size is that of an object of the type
abbrev pub measures : Declarations → ExprType → Size → Bool
measures d object k = holds_of (λ (u : ExprType). same_type u object) (size_shape d k)

-- so much is asked for, for objects of the type
abbrev pub asks : Declarations → Amount → ExprType → Bool
asks d (amount.Size k) object = measures d object k
asks d (amount.CountSize e k) object = is_number d e && measures d object k
asks d (amount.SizeCount k e) object = measures d object k && is_number d e
asks d (amount.Count e) object = is_number d e && is_char (integer_of object)

-- a pointer takes the address of such objects
abbrev pub holds_objects : Declarations → Amount → ExprType → Bool
holds_objects d n t = holds_of (asks d n) (target_of t)

abbrev pub allocates : Declarations → Target → Amount → Bool
allocates d target.None n = true
allocates d (target.Place e) n = passes d is_left_side e && passes d (λ (x : Operand). holds_objects d n x.shape) e
allocates d (target.Declared x) n = holds_of (holds_objects d n) (variable_shape d x)

-- ---- what is written (7.19.6.1)

-- an argument of its width for each conversion
abbrev pub converts : Declarations → List Conversion → List Expr → Bool
converts d [] [] = true
converts d [] (e ∷ es) = false
converts d (c ∷ cs) [] = false
converts d (c ∷ cs) (e ∷ es) = passes d (λ (x : Operand). has_width (conversion_width c) (integer_of x.shape)) e && converts d cs es

abbrev pub prints : Declarations → Bytes → List Expr → Bool
prints d format args = holds_of (λ (ps : List Piece). converts d (conversions ps) args) (format_pieces (literal_bytes format))

-- ---- statements

-- what is returned from a function with this result (6.8.6.4)
abbrev pub returns : Declarations → Option CType → Option Expr → Bool
returns d result None = is_none result
returns d result (Some e) = holds_of (λ (t : CType). takes d e (shape_of t)) result

abbrev pub act_fits : Declarations → Option CType → Act → Bool
act_fits d result (Begins x i) = begins d x i
act_fits d result (Sets left op right) = sets d left op right
act_fits d result (Bumps left up) = bumps d left
act_fits d result (Fetches to) = stores d to (a_value (integer Int))
act_fits d result (Writes e) = is_number d e
act_fits d result (Prints format args) = prints d format args
act_fits d result (Allocates to n) = allocates d to n
act_fits d result (Frees e) = is_address d e
act_fits d result (Returns e) = returns d result e
act_fits d result (Tests e) = is_tested d e

-- types fit in a statement of a function with this result
abbrev pub doing_fits : Declarations → Option CType → Doing → Bool
doing_fits d result (Does i a) = act_fits d result a
doing_fits d result (Calls i to f args) = holds_of (calls d to args) (slice_get d.functions f)

-- types fit in all statements of a function
abbrev pub function_fits : Declarations → Function → Bool
function_fits d f = list_all (doing_fits d f.result) (body_doings f.body)

-- types fit in what a global begins with, and that names no variable
abbrev pub item_fits : Declarations → Item → Bool
item_fits d (item.Include is_stdlib) = true
item_fits d (item.Tag s) = true
item_fits d (item.Struct s) = true
item_fits d (item.Global x i) = begins d x i && begins_fixed i
item_fits d (item.Prototype f names is_static) = true
item_fits d (item.Define f) = true

-- what a switch is over is an integer (6.8.4.2), and a variable that begins has a type (6.7)
abbrev pub need_fits : Declarations → Need → Bool
need_fits d (Picks e) = is_number d e
need_fits d (Starts x) = is_some (variable_shape d x)

abbrev pub function_needs : Declarations → Function → Bool
function_needs d f = list_all (need_fits d) (body_needs f.body)

-- types fit in a program: in its statements, in what its switches are over and which variables begin there, and in what its globals begin
-- with
pub record IsTyped (p : Program) : Type 0 where
  pub functions : list_all (function_fits (declarations p)) p.functions ≡ true
  pub needs : list_all (function_needs (declarations p)) p.functions ≡ true
  pub globals : list_all (item_fits (declarations p)) p.items ≡ true

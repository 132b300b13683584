-- The types of expressions (ISO C99 6.5): which operands an operator takes, and what it gives.
use Rattle.std.specs.Prelude.{ℕ, Bool, true, false, not, ◌&&◌, ◌||◌, ◌==◌, nat_lt, if◌then◌else◌, List, [], ◌∷◌, Option, Some, None, option_map, option_and_then, is_some, bytes_eq, codes, slice_get}
use Rattle.std.specs.List.{find}
use Rattle.std.specs.Option.{option_or}
use Rattle.c_arith.specs.declared.int_type.IntType.{IntType}
use Rattle.c_arith.specs.declared.int_type.IntType.TheVariants.{Int, Long}
use Rattle.c_arith.specs.declared.operators.UnaryOp.{UnaryOp}
use Rattle.c_arith.specs.declared.operators.UnaryOp.TheVariants.{Not}
use Rattle.c_arith.specs.declared.operators.BinaryOp.{BinaryOp}
use Rattle.c_arith.specs.declared.operators.BinaryOp.TheVariants.{Add, Sub, Less, Greater, AtMost, AtLeast, Equal, Unequal}
use Rattle.c_arith.specs.IntType.{width, is_signed, promote, common}
use Rattle.c_arith.specs.Operators.{unary_type, binary_type}
use Rattle.c_tree.specs.declared.raw.expr.RawExpr.{RawExpr, fold-RawExpr}
use Rattle.c_tree.specs.declared.raw.expr.RawExpr.TheOpen.{RawExpr-F}
use Rattle.c_tree.specs.declared.raw.program.RawMember.{RawMember}
use Rattle.c_tree.specs.declared.raw.program.RawProgram.{RawProgram}
use Rattle.c_language.specs.Lists.{same_all}
use Rattle.c_language.specs.Words.{Bytes}
use Rattle.c_language.specs.ConstantEvaluation.{literal_type, operand_type, both}
use Rattle.c_language.specs.DeclaredTypes.{StructText, defined_structs, written_type, integer, pointer_to, void}
use Rattle.c_language.specs.Scopes.{Scope, Meaning, meaning_in}
use Rattle.c_language.specs.declared.expr_type.Layer.{Layer}
use Rattle.c_language.specs.declared.expr_type.Layer.TheVariants.{Pointer, Array}
use Rattle.c_language.specs.declared.expr_type.Base.{Base}
use Rattle.c_language.specs.declared.expr_type.Base.TheVariants as base
use Rattle.c_language.specs.declared.expr_type.ExprType.{ExprType}
use Rattle.c_language.specs.declared.expr_type.Operand.{Operand}

abbrev pub a_place : ExprType → Operand
a_place t = record { shape = t; is_place = true; is_null = false }

abbrev pub a_value : ExprType → Operand
a_value t = record { shape = t; is_place = false; is_null = false }

abbrev pub a_null : ExprType → Operand
a_null t = record { shape = t; is_place = false; is_null = true }

abbrev pub same_int : IntType → IntType → Bool
same_int s t = (width s == width t) && ((is_signed s && is_signed t) || (not (is_signed s) && not (is_signed t)))

abbrev pub same_base : Base → Base → Bool
same_base (base.Integer s) (base.Integer t) = same_int s t
same_base (base.Struct m) (base.Struct n) = m == n
same_base base.Void base.Void = true
same_base _ _ = false

abbrev pub same_layer : Layer → Layer → Bool
same_layer Pointer Pointer = true
same_layer (Array m) (Array n) = m == n
same_layer _ _ = false

abbrev pub same_type : ExprType → ExprType → Bool
same_type s t = same_all same_layer s.layers t.layers && same_base s.base t.base

abbrev pub value_layers : List Layer → List Layer
value_layers [] = []
value_layers (Pointer ∷ ls) = Pointer ∷ ls
value_layers (Array n ∷ ls) = Pointer ∷ ls

-- the type of an expression's value: an array turns into a pointer to its first element (6.3.2.1, paragraph 3)
abbrev pub value_type : ExprType → ExprType
value_type t = record { layers = value_layers t.layers; base = t.base }

abbrev pub integer_in : List Layer → Base → Option IntType
integer_in [] (base.Integer t) = Some t
integer_in [] (base.Struct s) = None
integer_in [] base.Void = None
integer_in (l ∷ ls) b = None

-- the integer type that a type is
abbrev pub integer_of : ExprType → Option IntType
integer_of t = integer_in t.layers t.base

abbrev pub target_in : List Layer → Base → Option ExprType
target_in [] b = None
target_in (Pointer ∷ ls) b = Some (record { layers = ls; base = b })
target_in (Array n ∷ ls) b = None

-- what a pointer type points to
abbrev pub target_of : ExprType → Option ExprType
target_of t = target_in t.layers t.base

abbrev pub is_void_base : List Layer → Base → Bool
is_void_base [] base.Void = true
is_void_base [] (base.Integer t) = false
is_void_base [] (base.Struct s) = false
is_void_base (l ∷ ls) b = false

abbrev pub is_void : ExprType → Bool
is_void t = is_void_base t.layers t.base

-- what a pointer to an object points to; NULL points to none
abbrev pub object_of : ExprType → Option ExprType
object_of t = option_and_then (λ (o : ExprType). if is_void o then None else Some o) (target_of t)

abbrev pub is_integer : ExprType → Bool
is_integer t = is_some (integer_of t)

abbrev pub is_pointer : ExprType → Bool
is_pointer t = is_some (target_of t)

abbrev pub is_object_pointer : ExprType → Bool
is_object_pointer t = is_some (object_of t)

-- an integer or a pointer, which alone can be tested and stored (6.2.5, paragraph 21)
abbrev pub is_scalar : ExprType → Bool
is_scalar t = is_integer t || is_pointer t

abbrev pub is_array_in : List Layer → Bool
is_array_in [] = false
is_array_in (Pointer ∷ ls) = false
is_array_in (Array n ∷ ls) = true

abbrev pub is_array : ExprType → Bool
is_array t = is_array_in t.layers

abbrev pub given : Bool → ExprType → Option ExprType
given true t = Some t
given false t = None

-- `!` takes an integer or a pointer, and every other unary operator an integer (6.5.3.3)
abbrev pub unary_result : UnaryOp → ExprType → Option ExprType
unary_result Not t = given (is_scalar t) (integer Int)
unary_result op t = option_map (λ (i : IntType). integer (unary_type op (promote i))) (integer_of t)

-- the two types as integer operands of an operator
abbrev pub integer_result : BinaryOp → ExprType → ExprType → Option ExprType
integer_result op s t =
    both (λ (i j : IntType). integer (binary_type op (operand_type op i j))) (integer_of s) (integer_of t)

-- a pointer to an object, moved by an integer
abbrev pub moved : ExprType → ExprType → Option ExprType
moved p i = given (is_object_pointer p && is_integer i) p

-- two pointers to objects of one type
abbrev pub are_alike : ExprType → ExprType → Bool
are_alike s t = is_object_pointer s && same_type s t

-- one is a pointer, and the other stands for a null pointer
abbrev pub is_null_beside : Operand → Operand → Bool
is_null_beside a b = is_pointer (value_type a.shape) && b.is_null

-- pointers can be compared for equality where they have one type, or one stands for a null pointer (6.5.9, paragraph 2)
abbrev pub are_comparable : Operand → Operand → Bool
are_comparable a b =
    (is_pointer (value_type a.shape) && same_type (value_type a.shape) (value_type b.shape)) || (is_null_beside a b || is_null_beside b a)

-- a sum: of integers, or of a pointer and an integer (6.5.6)
abbrev pub sum_result : Operand → Operand → Option ExprType
sum_result a b = option_or (integer_result Add a.shape b.shape) (option_or (moved (value_type a.shape) b.shape) (moved (value_type b.shape) a.shape))

-- a difference: of integers, of a pointer and an integer, or of two pointers, which is a long (6.5.6)
abbrev pub difference_result : Operand → Operand → Option ExprType
difference_result a b =
    option_or (integer_result Sub a.shape b.shape)
    (option_or (moved (value_type a.shape) b.shape) (given (are_alike (value_type a.shape) (value_type b.shape)) (integer Long)))

-- a comparison of integers, or of two pointers (6.5.8)
abbrev pub order_result : BinaryOp → Operand → Operand → Option ExprType
order_result op a b = option_or (integer_result op a.shape b.shape) (given (are_alike (value_type a.shape) (value_type b.shape)) (integer Int))

-- a comparison for equality (6.5.9)
abbrev pub equality_result : BinaryOp → Operand → Operand → Option ExprType
equality_result op a b = option_or (integer_result op a.shape b.shape) (given (are_comparable a b) (integer Int))

-- what a binary operator gives at two operands (6.5.5 to 6.5.12)
abbrev pub binary_result : BinaryOp → Operand → Operand → Option ExprType
binary_result Add a b = sum_result a b
binary_result Sub a b = difference_result a b
binary_result Less a b = order_result Less a b
binary_result Greater a b = order_result Greater a b
binary_result AtMost a b = order_result AtMost a b
binary_result AtLeast a b = order_result AtLeast a b
binary_result Equal a b = equality_result Equal a b
binary_result Unequal a b = equality_result Unequal a b
binary_result op a b = integer_result op a.shape b.shape

-- `&&` and `||` take integers and pointers (6.5.13, 6.5.14)
abbrev pub logical_result : Operand → Operand → Option ExprType
logical_result a b = given (is_scalar (value_type a.shape) && is_scalar (value_type b.shape)) (integer Int)

abbrev pub common_result : ExprType → ExprType → Option ExprType
common_result s t = both (λ (i j : IntType). integer (common i j)) (integer_of s) (integer_of t)

-- the type of the chosen one: the common type of two integers, the one type of two pointers, or that of the pointer where the other stands for a null pointer (6.5.15)
abbrev pub chosen_result : Operand → Operand → Option ExprType
chosen_result a b =
    option_or (common_result a.shape b.shape)
    (option_or (given (are_alike (value_type a.shape) (value_type b.shape) || (is_object_pointer (value_type a.shape) && b.is_null)) (value_type a.shape))
    (given (is_object_pointer (value_type b.shape) && a.is_null) (value_type b.shape)))

abbrev pub choose_result : Operand → Operand → Operand → Option ExprType
choose_result c a b = option_and_then (λ (t : ExprType). given (is_scalar (value_type c.shape)) t) (chosen_result a b)

-- an integer is cast to an integer type (6.5.4)
abbrev pub cast_result : IntType → Operand → Option ExprType
cast_result t a = given (is_integer a.shape) (integer t)

-- the object that a pointer points to (6.5.3.2)
abbrev pub pointed : Operand → Option ExprType
pointed a = object_of (value_type a.shape)

-- `p[i]` is `*(p + i)` (6.5.2.1)
abbrev pub indexed : Operand → Operand → Option ExprType
indexed a i = option_and_then (λ (t : ExprType). given (is_integer i.shape) t) (pointed a)

-- the address of an object that is no array (6.5.3.2)
abbrev pub address_result : Operand → Option ExprType
address_result a = given (a.is_place && not (is_array a.shape)) (pointer_to a.shape)

abbrev pub struct_in : List Layer → Base → Option ℕ
struct_in [] (base.Struct s) = Some s
struct_in [] (base.Integer t) = None
struct_in [] base.Void = None
struct_in (l ∷ ls) b = None

-- the struct type that a type is
abbrev pub struct_of : ExprType → Option ℕ
struct_of t = struct_in t.layers t.base

abbrev pub member_named : List RawMember → Bytes → Option RawMember
member_named members name = find (λ (m : RawMember). bytes_eq m.name name) members

-- the member of a struct type that has the name
abbrev pub member_of : RawProgram → ℕ → Bytes → Option RawMember
member_of raw s name = option_and_then (λ (d : StructText). member_named d.members name) (slice_get (defined_structs raw) s)

-- the type of a member of a struct type that is complete (6.5.2.3)
abbrev pub member_type : RawProgram → Scope → Bytes → ℕ → Option ExprType
member_type raw scope name s =
    if nat_lt s scope.structs then option_and_then (λ (m : RawMember). written_type raw m.shape) (member_of raw s name) else None

abbrev pub selected_type : RawProgram → Scope → Bytes → ExprType → Option ExprType
selected_type raw scope name t = option_and_then (member_type raw scope name) (struct_of t)

-- the variable that a name stands for; a function is no value here
abbrev pub variable_in : Option Meaning → Option Operand
variable_in None = None
variable_in (Some Meaning.Function) = None
variable_in (Some (Meaning.Variable id t)) = option_map a_place t

-- a constant that is spelled `0` stands for a null pointer (6.3.2.3, paragraph 3)
abbrev pub constant_operand : Bytes → IntType → Operand
constant_operand text t = record { shape = integer t; is_place = false; is_null = bytes_eq text (codes "0") }

abbrev pub operand_step : RawProgram → Scope → RawExpr-F (Option Operand) → Option Operand
operand_step raw scope (RawExpr-F.Constant text) = Some (constant_operand text (literal_type text))
operand_step raw scope RawExpr-F.Null = Some (a_null (pointer_to void))
operand_step raw scope RawExpr-F.Eof = Some (a_value (integer Int))
operand_step raw scope (RawExpr-F.Variable name) = variable_in (meaning_in scope name)
operand_step raw scope (RawExpr-F.Unary op a) = option_map a_value (option_and_then (λ (x : Operand). unary_result op (value_type x.shape)) a)
operand_step raw scope (RawExpr-F.Deref a) = option_map a_place (option_and_then pointed a)
operand_step raw scope (RawExpr-F.AddressOf a) = option_map a_value (option_and_then address_result a)
operand_step raw scope (RawExpr-F.Binary op a b) = option_map a_value (option_and_then (λ (x : Operand). option_and_then (binary_result op x) b) a)
operand_step raw scope (RawExpr-F.AndAlso a b) = option_map a_value (option_and_then (λ (x : Operand). option_and_then (logical_result x) b) a)
operand_step raw scope (RawExpr-F.OrElse a b) = option_map a_value (option_and_then (λ (x : Operand). option_and_then (logical_result x) b) a)
operand_step raw scope (RawExpr-F.Choose c a b) =
    option_map a_value (option_and_then (λ (x : Operand). option_and_then (λ (y : Operand). option_and_then (choose_result x y) b) a) c)
operand_step raw scope (RawExpr-F.Cast t a) = option_map a_value (option_and_then (cast_result t) a)
operand_step raw scope (RawExpr-F.Index a i) = option_map a_place (option_and_then (λ (x : Operand). option_and_then (indexed x) i) a)
operand_step raw scope (RawExpr-F.Member a m) = option_map a_place (option_and_then (λ (x : Operand). selected_type raw scope m x.shape) a)
operand_step raw scope (RawExpr-F.Arrow a m) = option_map a_place (option_and_then (λ (x : Operand). option_and_then (selected_type raw scope m) (pointed x)) a)
operand_step raw scope (RawExpr-F.Paren a) = a

-- an expression as an operand, where its scope is in force: None where a rule is broken in it, or by a declaration that it names
abbrev pub operand : RawProgram → Scope → RawExpr → Option Operand
operand raw scope = fold-RawExpr (Option Operand) (operand_step raw scope)

-- the type of an expression
abbrev pub type_of : RawProgram → Scope → RawExpr → Option ExprType
type_of raw scope e = option_map (λ (x : Operand). x.shape) (operand raw scope e)

-- an integer takes an integer, and a pointer one of the same type or a null pointer (6.5.16.1)
abbrev pub is_assignable : ExprType → Operand → Bool
is_assignable t x = (is_integer t && is_integer x.shape) || (is_pointer t && (same_type t (value_type x.shape) || x.is_null))

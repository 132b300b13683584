-- The types of expressions in a program's tree (ISO C99 6.5), whose operands keep the rules.
use Rattle.std.specs.Prelude.{ℕ, List, [], if◌then◌else◌, Option, Some, unwrap_or, slice_get}
use Rattle.std.specs.Option.{option_map_or}
use Rattle.c_arith.specs.declared.int_type.IntType.{IntType}
use Rattle.c_arith.specs.declared.int_type.IntType.TheVariants.{Int, Long}
use Rattle.c_arith.specs.declared.operators.BinaryOp.{BinaryOp}
use Rattle.c_arith.specs.declared.operators.BinaryOp.TheVariants.{Add, Sub}
use Rattle.c_arith.specs.IntType.{promote, common}
use Rattle.c_arith.specs.Operators.{unary_type, binary_type}
use Rattle.c_tree.specs.declared.types.CType.{CType, fold-CType}
use Rattle.c_tree.specs.declared.types.CType.TheOpen.{CType-F}
use Rattle.c_tree.specs.declared.expr.MemberId.{MemberId}
use Rattle.c_tree.specs.declared.expr.Expr.{Expr, fold-Expr}
use Rattle.c_tree.specs.declared.expr.Expr.TheOpen.{Expr-F}
use Rattle.c_tree.specs.declared.program.Member.{Member}
use Rattle.c_tree.specs.declared.program.Program.{Program}
use Rattle.c_tree.specs.declared.program.StructDef.{StructDef}
use Rattle.c_tree.specs.declared.program.Var.{Var}
use Rattle.c_language.specs.declared.expr_type.Base.TheVariants.{Struct}
use Rattle.c_language.specs.declared.expr_type.Layer.TheVariants.{Array}
use Rattle.c_language.specs.declared.expr_type.ExprType.{ExprType}
use Rattle.c_language.specs.DeclaredTypes.{of_base, with_layer, integer, pointer_to, void}
use Rattle.c_language.specs.ExprTypes.{integer_of, is_pointer, is_object_pointer, value_type, target_of}
use Rattle.c_language.specs.ConstantEvaluation.{operand_type}

-- a type of the tree, as expressions have it
abbrev pub shape_step : CType-F ExprType → ExprType
shape_step (CType-F.Integer t) = integer t
shape_step (CType-F.PointerTo t) = pointer_to t
shape_step (CType-F.Array t n words) = with_layer (Array n) t
shape_step (CType-F.Struct s) = of_base (Struct s)

abbrev pub shape_of : CType → ExprType
shape_of = fold-CType ExprType shape_step

-- the types of the variables that expressions name, and of the members that they select
pub record Typing : Type 0 where
  pub variable : ℕ → ExprType
  pub member : MemberId → ExprType

abbrev pub type_of_variable : Program → ℕ → ExprType
type_of_variable p x = option_map_or (λ (v : Var). shape_of v.shape) (slice_get p.vars x) (integer Int)

abbrev pub members_of : Program → ℕ → List Member
members_of p s = option_map_or (λ (d : StructDef). d.members) (slice_get p.structs s) []

abbrev pub type_of_member : Program → MemberId → ExprType
type_of_member p m = option_map_or (λ (k : Member). shape_of k.shape) (slice_get (members_of p m.owner) m.index) (integer Int)

-- the types of a program's variables and members
abbrev pub typing_of : Program → Typing
typing_of p = record { variable = type_of_variable p; member = type_of_member p }

-- the integer type of an operand; a pointer has none
abbrev pub int_type : ExprType → IntType
int_type t = unwrap_or (integer_of t) Int

-- what a pointer points to, also an array that turns into one
abbrev pub pointee : ExprType → ExprType
pointee t = unwrap_or (target_of (value_type t)) void

abbrev pub combined : BinaryOp → ExprType → ExprType → ExprType
combined op s t = integer (binary_type op (operand_type op (int_type s) (int_type t)))

-- a sum with a pointer is one, a difference of two is a long (6.5.6)
abbrev pub binary_tree_type : BinaryOp → ExprType → ExprType → ExprType
binary_tree_type Add s t =
    if is_pointer (value_type s) then value_type s else (if is_pointer (value_type t) then value_type t else combined Add s t)
binary_tree_type Sub s t =
    if is_pointer (value_type s) then (if is_pointer (value_type t) then integer Long else value_type s) else combined Sub s t
binary_tree_type op s t = combined op s t

-- the one type of two pointers, or the pointer's where the other one stands for a null pointer: NULL points to no object (6.5.15, paragraph 6)
abbrev pub chosen_pointer : ExprType → ExprType → ExprType
chosen_pointer s t = if is_object_pointer s then s else t

abbrev pub chosen_of : Option IntType → Option IntType → ExprType → ExprType
chosen_of (Some i) (Some j) t = integer (common i j)
chosen_of _ _ t = t

-- the common type of two integers, and else that of the pointer; an array turns into one (6.5.15, paragraph 5)
abbrev pub chosen_type : ExprType → ExprType → ExprType
chosen_type s t = chosen_of (integer_of s) (integer_of t) (chosen_pointer (value_type s) (value_type t))

-- the type of an expression whose parts have these types
abbrev pub typed_step : Typing → Expr-F ExprType → ExprType
typed_step types (Expr-F.Constant text t v) = integer t
typed_step types Expr-F.Null = pointer_to void
typed_step types Expr-F.Eof = integer Int
typed_step types (Expr-F.Variable x) = types.variable x
typed_step types (Expr-F.Unary op a) = integer (unary_type op (promote (int_type a)))
typed_step types (Expr-F.Deref a) = pointee a
typed_step types (Expr-F.AddressOf a) = pointer_to a
typed_step types (Expr-F.Binary op a b) = binary_tree_type op a b
typed_step types (Expr-F.AndAlso a b) = integer Int
typed_step types (Expr-F.OrElse a b) = integer Int
typed_step types (Expr-F.Choose c a b) = chosen_type a b
typed_step types (Expr-F.Cast t a) = integer t
typed_step types (Expr-F.Index a i) = pointee a
typed_step types (Expr-F.Member a m) = types.member m
typed_step types (Expr-F.Arrow a m) = types.member m
typed_step types (Expr-F.Paren a) = a

abbrev pub tree_type_step : Program → Expr-F ExprType → ExprType
tree_type_step p = typed_step (typing_of p)

-- the type of an expression of a program
abbrev pub tree_type : Program → Expr → ExprType
tree_type p = fold-Expr ExprType (tree_type_step p)

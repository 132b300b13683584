-- What the operators of a program's tree see of their operands (ISO C99 6.5): an operand is told from the tree, by what the program declares.
use Rattle.std.specs.Prelude.{ℕ, List, [], map, ◌==◌, if◌then◌else◌, Option, Some, None, option_map, option_and_then, slice_get}
use Rattle.std.specs.Option.{option_map_or}
use Rattle.c_arith.specs.declared.int_type.IntType.TheVariants.{Int}
use Rattle.c_tree.specs.declared.expr.Expr.{Expr, fold-Expr}
use Rattle.c_tree.specs.declared.expr.Expr.TheOpen.{Expr-F}
use Rattle.c_tree.specs.declared.expr.MemberId.{MemberId}
use Rattle.c_tree.specs.declared.program.Function.{Function}
use Rattle.c_tree.specs.declared.program.Member.{Member}
use Rattle.c_tree.specs.declared.program.Program.{Program}
use Rattle.c_tree.specs.declared.program.StructDef.{StructDef}
use Rattle.c_tree.specs.declared.program.Var.{Var}
use Rattle.c_tree.specs.declared.types.CType.{CType}
use Rattle.c_language.specs.DeclaredTypes.{integer, pointer_to, void}
use Rattle.c_language.specs.ExprTypes.{a_place, a_value, a_null, constant_operand, value_type, unary_result, binary_result, logical_result, choose_result, cast_result, pointed, indexed, address_result, struct_of}
use Rattle.c_language.specs.TreeTypes.{shape_of}
use Rattle.c_language.specs.declared.expr_type.ExprType.{ExprType}
use Rattle.c_language.specs.declared.expr_type.Operand.{Operand}

-- a function as its calls see it: the numbers of its parameters, and the type of its result, where it has one
pub record Signature : Type 0 where
  pub params : List ℕ
  pub result : Option CType

-- what a program declares, each by its number: the types of its variables, its struct types, and its functions
pub record Declarations : Type 0 where
  pub variables : List ExprType
  pub structs : List StructDef
  pub functions : List Signature

abbrev pub signature_of : Function → Signature
signature_of f = record { params = f.params; result = f.result }

abbrev pub declarations : Program → Declarations
declarations p = record {
  variables = map (λ (v : Var). shape_of v.shape) p.vars;
  structs = p.structs;
  functions = map signature_of p.functions;
}

-- the type of a variable
abbrev pub variable_shape : Declarations → ℕ → Option ExprType
variable_shape d x = slice_get d.variables x

abbrev pub members_in : Declarations → ℕ → List Member
members_in d s = option_map_or (λ (k : StructDef). k.members) (slice_get d.structs s) []

-- the type of a member of a struct type
abbrev pub member_shape : Declarations → MemberId → Option ExprType
member_shape d m = option_map (λ (k : Member). shape_of k.shape) (slice_get (members_in d m.owner) m.index)

-- the same, where it is a member of the struct type with the number
abbrev pub member_within : Declarations → MemberId → ℕ → Option ExprType
member_within d m s = if s == m.owner then member_shape d m else None

-- the type of a member that is selected from an object of the type (6.5.2.3)
abbrev pub selected : Declarations → MemberId → ExprType → Option ExprType
selected d m t = option_and_then (member_within d m) (struct_of t)

-- the same forms as for an expression of a text, with variables and members by their numbers
abbrev pub tree_operand_step : Declarations → Expr-F (Option Operand) → Option Operand
tree_operand_step d (Expr-F.Constant text t v) = Some (constant_operand text t)
tree_operand_step d Expr-F.Null = Some (a_null (pointer_to void))
tree_operand_step d Expr-F.Eof = Some (a_value (integer Int))
tree_operand_step d (Expr-F.Variable x) = option_map a_place (variable_shape d x)
tree_operand_step d (Expr-F.Unary op a) = option_map a_value (option_and_then (λ (x : Operand). unary_result op (value_type x.shape)) a)
tree_operand_step d (Expr-F.Deref a) = option_map a_place (option_and_then pointed a)
tree_operand_step d (Expr-F.AddressOf a) = option_map a_value (option_and_then address_result a)
tree_operand_step d (Expr-F.Binary op a b) = option_map a_value (option_and_then (λ (x : Operand). option_and_then (binary_result op x) b) a)
tree_operand_step d (Expr-F.AndAlso a b) = option_map a_value (option_and_then (λ (x : Operand). option_and_then (logical_result x) b) a)
tree_operand_step d (Expr-F.OrElse a b) = option_map a_value (option_and_then (λ (x : Operand). option_and_then (logical_result x) b) a)
tree_operand_step d (Expr-F.Choose c a b) =
    option_map a_value (option_and_then (λ (x : Operand). option_and_then (λ (y : Operand). option_and_then (choose_result x y) b) a) c)
tree_operand_step d (Expr-F.Cast t a) = option_map a_value (option_and_then (cast_result t) a)
tree_operand_step d (Expr-F.Index a i) = option_map a_place (option_and_then (λ (x : Operand). option_and_then (indexed x) i) a)
tree_operand_step d (Expr-F.Member a m) = option_map a_place (option_and_then (λ (x : Operand). selected d m x.shape) a)
tree_operand_step d (Expr-F.Arrow a m) = option_map a_place (option_and_then (λ (x : Operand). option_and_then (selected d m) (pointed x)) a)
tree_operand_step d (Expr-F.Paren a) = a

-- an expression as an operand: None where an operator in it has operands that it doesn't take
abbrev pub operand_of : Declarations → Expr → Option Operand
operand_of d = fold-Expr (Option Operand) (tree_operand_step d)

-- an expression of a program as an operand
abbrev pub tree_operand : Program → Expr → Option Operand
tree_operand p = operand_of (declarations p)

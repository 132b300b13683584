-- What breaks a rule in an expression, by its outermost form and by what that sees of its operands.
use Rattle.std.specs.Prelude.{ℕ, ◌&&◌, ◌||◌, nat_lt, List, [], ◌∷◌, Bool, true, false, not, is_none, Option, Some, None, option_map, option_and_then}
use Rattle.c_arith.specs.declared.operators.BinaryOp.{BinaryOp}
use Rattle.c_arith.specs.declared.operators.BinaryOp.TheVariants.{Add, Sub}
use Rattle.c_tree.specs.declared.raw.expr.RawExpr.{RawExpr, out-RawExpr, map-RawExpr}
use Rattle.c_tree.specs.declared.raw.expr.RawExpr.TheOpen.{RawExpr-F}
use Rattle.c_tree.specs.declared.raw.program.RawProgram.{RawProgram}
use Rattle.c_language.specs.Words.{Bytes}
use Rattle.c_language.specs.ConstantEvaluation.{both}
use Rattle.c_language.specs.DeclaredTypes.{has_stdio, has_stdlib}
use Rattle.c_language.specs.Scopes.{Scope, Meaning, meaning_in}
use Rattle.c_language.specs.ExprTypes.{operand, value_type, target_of, is_array, struct_of, member_of, unary_result, binary_result, logical_result, choose_result, cast_result, pointed, indexed}
use Rattle.c_language.specs.declared.expr_type.Layer.{Layer}
use Rattle.c_language.specs.declared.expr_type.Layer.TheVariants.{Pointer, Array}
use Rattle.c_language.specs.declared.expr_type.Base.{Base}
use Rattle.c_language.specs.declared.expr_type.Base.TheVariants as base
use Rattle.c_language.specs.declared.expr_type.ExprType.{ExprType}
use Rattle.c_language.specs.declared.expr_type.Operand.{Operand}

-- an expression's outermost form, with its operands as they are seen: None where a rule is broken in them
abbrev pub Seen : Type 0
Seen = RawExpr-F (Option Operand)

abbrev pub seen : RawProgram → Scope → RawExpr → Seen
seen raw scope e = map-RawExpr RawExpr (Option Operand) (operand raw scope) (out-RawExpr e)

-- ---- names

-- a name that isn't in scope (6.5.1, paragraph 2)
abbrev pub is_undeclared : Scope → Seen → Bool
is_undeclared scope (RawExpr-F.Variable name) = is_none (meaning_in scope name)
is_undeclared scope _ = false

-- NULL or EOF without the header that defines it (7.17, 7.19.1)
abbrev pub lacks_header : RawProgram → Seen → Bool
lacks_header raw RawExpr-F.Null = not (has_stdio raw || has_stdlib raw)
lacks_header raw RawExpr-F.Eof = not (has_stdio raw)
lacks_header raw _ = false

-- ---- struct types

abbrev pub complete_base : Scope → Base → Bool
complete_base scope (base.Struct s) = nat_lt s scope.structs
complete_base scope (base.Integer t) = true
complete_base scope base.Void = true

abbrev pub complete_in : Scope → List Layer → Base → Bool
complete_in scope [] b = complete_base scope b
complete_in scope (Pointer ∷ ls) b = true
complete_in scope (Array n ∷ ls) b = complete_in scope ls b

-- the struct type that an object of the type is made of, if it is, has been defined before the place
abbrev pub is_complete : Scope → ExprType → Bool
is_complete scope t = complete_in scope t.layers t.base

abbrev pub holds_of : {A : Type 0} → (A → Bool) → Option A → Bool
holds_of test None = false
holds_of test (Some x) = test x

-- an operand is a pointer to objects whose size isn't known at the place
abbrev pub points_to_incomplete : Scope → Operand → Bool
points_to_incomplete scope a = holds_of (λ (t : ExprType). not (is_complete scope t)) (target_of (value_type a.shape))

-- an operator that moves a pointer, or takes the distance of two
abbrev pub moves : BinaryOp → Bool
moves Add = true
moves Sub = true
moves _ = false

-- one of the two operands of an operator is a pointer that it moves, to objects of unknown size
abbrev pub moves_incomplete : Scope → BinaryOp → Option Operand → Option Operand → Bool
moves_incomplete scope op a b = moves op && (holds_of (points_to_incomplete scope) a || holds_of (points_to_incomplete scope) b)

abbrev pub is_incomplete_struct : Scope → ExprType → Bool
is_incomplete_struct scope t = holds_of (λ (s : ℕ). not (nat_lt s scope.structs)) (struct_of t)

-- a member is selected, or a pointer is moved or indexed, before the struct type is defined (6.5.2.1, 6.5.2.3, 6.5.6)
abbrev pub needs_struct : Scope → Seen → Bool
needs_struct scope (RawExpr-F.Member a m) = holds_of (λ (x : Operand). is_incomplete_struct scope x.shape) a
needs_struct scope (RawExpr-F.Arrow a m) = holds_of (is_incomplete_struct scope) (option_and_then pointed a)
needs_struct scope (RawExpr-F.Binary op a b) = moves_incomplete scope op a b
needs_struct scope (RawExpr-F.Index a i) = holds_of (points_to_incomplete scope) a
needs_struct scope _ = false

abbrev pub lacks_member : RawProgram → Bytes → ExprType → Bool
lacks_member raw m t = holds_of (λ (s : ℕ). is_none (member_of raw s m)) (struct_of t)

-- a member is selected that the struct type hasn't (6.5.2.3)
abbrev pub selects_missing : RawProgram → Seen → Bool
selects_missing raw (RawExpr-F.Member a m) = holds_of (λ (x : Operand). lacks_member raw m x.shape) a
selects_missing raw (RawExpr-F.Arrow a m) = holds_of (lacks_member raw m) (option_and_then pointed a)
selects_missing raw _ = false

-- ---- types

-- the operands are there, and nothing is given for them
abbrev pub fails : {A : Type 0} → Option (Option A) → Bool
fails None = false
fails (Some None) = true
fails (Some (Some x)) = false

abbrev pub is_function : Option Meaning → Bool
is_function None = false
is_function (Some Meaning.Function) = true
is_function (Some (Meaning.Variable id t)) = false

-- an operator has operands that it doesn't take, or a function stands as a value (6.5)
abbrev pub has_bad_operand : Scope → Seen → Bool
has_bad_operand scope (RawExpr-F.Variable name) = is_function (meaning_in scope name)
has_bad_operand scope (RawExpr-F.Unary op a) = fails (option_map (λ (x : Operand). unary_result op (value_type x.shape)) a)
has_bad_operand scope (RawExpr-F.Deref a) = fails (option_map pointed a)
has_bad_operand scope (RawExpr-F.Binary op a b) = fails (both (binary_result op) a b)
has_bad_operand scope (RawExpr-F.AndAlso a b) = fails (both logical_result a b)
has_bad_operand scope (RawExpr-F.OrElse a b) = fails (both logical_result a b)
has_bad_operand scope (RawExpr-F.Choose c a b) = fails (option_and_then (λ (x : Operand). both (choose_result x) a b) c)
has_bad_operand scope (RawExpr-F.Cast t a) = fails (option_map (cast_result t) a)
has_bad_operand scope (RawExpr-F.Index a i) = fails (both indexed a i)
has_bad_operand scope (RawExpr-F.Member a m) = fails (option_map (λ (x : Operand). struct_of x.shape) a)
has_bad_operand scope (RawExpr-F.Arrow a m) = fails (option_map (λ (x : Operand). option_and_then struct_of (pointed x)) a)
has_bad_operand scope _ = false

abbrev pub is_no_address : Operand → Bool
is_no_address x = not x.is_place || is_array x.shape

-- the address is taken of what is no place, or of an array (6.5.3.2)
abbrev pub has_no_address : Seen → Bool
has_no_address (RawExpr-F.AddressOf a) = holds_of is_no_address a
has_no_address _ = false

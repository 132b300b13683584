-- Constant expressions (ISO C99 6.6): their types, and their values where the evaluation has no undefined act.
use Rattle.std.specs.Prelude.{ℕ, ◌==◌, slice_index, ℤ, pos, negsuc, Bool, not, if◌then◌else◌, Option, Some, None, unwrap_or, option_map, option_and_then}
use Rattle.std.specs.Ordering.{int_eq}
use Rattle.c_arith.specs.declared.int_type.IntType.{IntType}
use Rattle.c_arith.specs.declared.int_type.IntType.TheVariants.{Int}
use Rattle.c_arith.specs.declared.operators.UnaryOp.{UnaryOp}
use Rattle.c_arith.specs.declared.operators.BinaryOp.{BinaryOp}
use Rattle.c_arith.specs.declared.operators.BinaryOp.TheVariants.{Shl, Shr}
use Rattle.c_arith.specs.IntType.{promote, common, convert}
use Rattle.c_arith.specs.Operators.{truth, unary, unary_type, binary, binary_type}
use Rattle.c_tree.specs.declared.raw.expr.RawExpr.{RawExpr, fold-RawExpr}
use Rattle.c_tree.specs.declared.raw.expr.RawExpr.TheOpen.{RawExpr-F}
use Rattle.c_language.specs.Words.{Bytes}
use Rattle.c_language.specs.declared.constant.Constant.{Constant}
use Rattle.c_language.specs.Constants.{constant_type, constant_value, character_value}

-- a character constant begins with its quote (6.4.4.4)
abbrev pub is_character : Bytes → Bool
is_character text = slice_index text 0 == 39

-- the type of a constant, that of an integer or that of a character; what is no constant, which no token is, counts as an int
abbrev pub literal_type : Bytes → IntType
literal_type text = if is_character text then Int else unwrap_or (constant_type text) Int

abbrev pub value_if : Option IntType → ℕ → ℕ
value_if None v = 0
value_if (Some t) v = v

-- the value of a constant
abbrev pub literal_value : Bytes → ℕ
literal_value text = if is_character text then character_value text else value_if (constant_type text) (constant_value text)

abbrev pub constant_of : IntType → Option ℤ → Constant
constant_of integer value = record { integer = integer; value = value }

abbrev pub spelled : ℕ → IntType → Constant
spelled n t = constant_of t (Some (pos n))

-- the type in which the operands of an operator are taken: their common type, and for a shift that of the left one (6.3.1.8, 6.5.7)
abbrev pub operand_type : BinaryOp → IntType → IntType → IntType
operand_type Shl a b = promote a
operand_type Shr a b = promote a
operand_type _ a b = common a b

-- the right operand of a shift keeps its value, and every other one is converted to the type of the operands
abbrev pub right_value : BinaryOp → IntType → ℤ → ℤ
right_value Shl t z = z
right_value Shr t z = z
right_value _ t z = convert z t

-- a unary operator at a promoted value
abbrev pub promoted_unary : UnaryOp → IntType → ℤ → Option ℤ
promoted_unary op t z = unary op t (convert z t)

abbrev pub unary_constant : UnaryOp → Constant → Constant
unary_constant op a =
    constant_of (unary_type op (promote a.integer)) (option_and_then (promoted_unary op (promote a.integer)) a.value)

-- an operator at two values, once they are converted
abbrev pub converted_binary : BinaryOp → IntType → Option ℤ → Option ℤ → Option ℤ
converted_binary op t a b =
    option_and_then (λ (x : ℤ). option_and_then (λ (y : ℤ). binary op t (convert x t) (right_value op t y)) b) a

abbrev pub binary_constant : BinaryOp → Constant → Constant → Constant
binary_constant op a b =
    constant_of (binary_type op (operand_type op a.integer b.integer)) (converted_binary op (operand_type op a.integer b.integer) a.value b.value)

abbrev pub is_zero : ℤ → Bool
is_zero z = int_eq z (pos 0)

-- the right operand of `&&` is evaluated where the left one isn't 0 (6.5.13)
abbrev pub and_value : ℤ → Option ℤ → Option ℤ
and_value z b = if is_zero z then Some (pos 0) else option_map (λ (y : ℤ). truth (not (is_zero y))) b

-- the right operand of `||` is evaluated where the left one is 0 (6.5.14)
abbrev pub or_value : ℤ → Option ℤ → Option ℤ
or_value z b = if is_zero z then option_map (λ (y : ℤ). truth (not (is_zero y))) b else Some (pos 1)

-- one of two operands is evaluated, and has their common type (6.5.15)
abbrev pub chosen_value : IntType → ℤ → Option ℤ → Option ℤ → Option ℤ
chosen_value t z a b = option_map (λ (x : ℤ). convert x t) (if is_zero z then b else a)

abbrev pub and_constant : Constant → Constant → Constant
and_constant a b = constant_of Int (option_and_then (λ (z : ℤ). and_value z b.value) a.value)

abbrev pub or_constant : Constant → Constant → Constant
or_constant a b = constant_of Int (option_and_then (λ (z : ℤ). or_value z b.value) a.value)

abbrev pub chosen_constant : Constant → Constant → Constant → Constant
chosen_constant c a b =
    constant_of (common a.integer b.integer) (option_and_then (λ (z : ℤ). chosen_value (common a.integer b.integer) z a.value b.value) c.value)

abbrev pub cast_constant : IntType → Constant → Constant
cast_constant t a = constant_of t (option_map (λ (x : ℤ). convert x t) a.value)

-- a function of two values, where both are there
abbrev pub both : {A B C : Type 0} → (A → B → C) → Option A → Option B → Option C
both f a b = option_and_then (λ x. option_map (f x) b) a

abbrev pub constant_step : RawExpr-F (Option Constant) → Option Constant
constant_step (RawExpr-F.Constant text) = Some (spelled (literal_value text) (literal_type text))
constant_step RawExpr-F.Null = None
constant_step RawExpr-F.Eof = Some (constant_of Int (Some (negsuc 0)))
constant_step (RawExpr-F.Variable name) = None
constant_step (RawExpr-F.Unary op a) = option_map (unary_constant op) a
constant_step (RawExpr-F.Deref a) = None
constant_step (RawExpr-F.AddressOf a) = None
constant_step (RawExpr-F.Binary op a b) = both (binary_constant op) a b
constant_step (RawExpr-F.AndAlso a b) = both and_constant a b
constant_step (RawExpr-F.OrElse a b) = both or_constant a b
constant_step (RawExpr-F.Choose c a b) = option_and_then (λ (x : Constant). both (chosen_constant x) a b) c
constant_step (RawExpr-F.Cast t a) = option_map (cast_constant t) a
constant_step (RawExpr-F.Index a i) = None
constant_step (RawExpr-F.Member a m) = None
constant_step (RawExpr-F.Arrow a m) = None
constant_step (RawExpr-F.Paren a) = a

-- what an expression is as a constant expression: None where a name other than EOF, NULL, or an operator on places stands in it
abbrev pub constant : RawExpr → Option Constant
constant = fold-RawExpr (Option Constant) constant_step

-- the value of a constant expression: None where it is none, or an act of its evaluation is undefined
abbrev pub value_of_constant : RawExpr → Option ℤ
value_of_constant e = option_and_then (λ (x : Constant). x.value) (constant e)

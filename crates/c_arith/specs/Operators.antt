-- The integer operators of C99 (6.5.3.3, 6.5.5 to 6.5.12): what each gives, and None where the act is undefined.
-- The operands have been converted: both to their common type t, or a shift's left one by promotion.
use Rattle.std.specs.Prelude.{◌≤ℤ◌, ◌+ℤ◌, ◌-ℤ◌, ◌*ℤ◌, ◌-◌, ◌*◌, ◌^◌, ℕ, ℤ, pos, negsuc, neg_ℤ, Bool, not, if◌then◌else◌, nat_lt, int_lt, int_le, int_div, unsigned_abs, bit_and, bit_or, bit_xor, Option, Some, None}
use Rattle.std.specs.Int.{int_rem_euclid, int_div_euclid}
use Rattle.std.specs.Option.{option_map, option_and_then}
use Rattle.std.specs.Ordering.{int_eq}
use Rattle.c_arith.specs.declared.int_type.IntType.{IntType}
use Rattle.c_arith.specs.declared.int_type.IntType.TheVariants.{Int, Long, ULong}
use Rattle.c_arith.specs.declared.operators.UnaryOp.{UnaryOp}
use Rattle.c_arith.specs.declared.operators.UnaryOp.TheVariants.{Plus, Minus, Flip, Not}
use Rattle.c_arith.specs.declared.operators.BinaryOp.{BinaryOp}
use Rattle.c_arith.specs.declared.operators.BinaryOp.TheVariants.{Mul, Div, Rem, Add, Sub, Shl, Shr, Less, Greater, AtMost, AtLeast, Equal, Unequal, And, Xor, Or}
use Rattle.c_arith.specs.IntType.{width, is_signed, least, greatest, LiesIn, lies_in, convert}

-- z, or undefined where t has no such value (6.5, paragraph 5)
abbrev pub representable : IntType → ℤ → Option ℤ
representable t z = if lies_in t z then Some z else None

-- what an operator gives whose exact value is z: an unsigned result wraps (6.2.5, paragraph 9), and a signed one out of range is undefined
abbrev pub arithmetic : IntType → ℤ → Option ℤ
arithmetic t z = if is_signed t then representable t z else Some (convert z t)

-- the quotient, truncated toward zero: undefined by 0, and out of range (6.5.5)
abbrev pub quotient : IntType → ℤ → ℤ → Option ℤ
quotient t a b = if int_eq b (pos 0) then None else representable t (int_div a b)

-- how far a shift by b moves: undefined by a negative amount, and by the width or more (6.5.7)
abbrev pub shift_amount : IntType → ℤ → Option ℕ
shift_amount t (pos k) = if nat_lt k (width t) then Some k else None
shift_amount t (negsuc k) = None

-- a left shift by k multiplies by 2 to the k, and is undefined for a negative value
abbrev pub shift_left : IntType → ℤ → ℕ → Option ℤ
shift_left t (pos a) k = arithmetic t (pos (a * 2 ^ k))
shift_left t (negsuc a) k = None

-- a right shift by k divides by 2 to the k and rounds toward minus infinity (6.5.7, which leaves a negative a to the implementation)
abbrev pub shift_right : ℤ → ℕ → ℤ
shift_right a k = int_div_euclid a (pos (2 ^ k))

-- the bits of z in two's complement at the width of t, as a natural number (6.2.6.2)
abbrev pub bits_of : IntType → ℤ → ℕ
bits_of t z = unsigned_abs (int_rem_euclid z (pos (2 ^ width t)))

-- the value of t that has the bits n
abbrev pub value_of : IntType → ℕ → ℤ
value_of t n = convert (pos n) t

-- what a comparison or `!` gives: 1 where it holds, and else 0
abbrev pub truth : Bool → ℤ
truth b = if b then pos 1 else pos 0

-- a unary operator at a value of type t (6.5.3.3)
unfoldable pub unary : UnaryOp → IntType → ℤ → Option ℤ
unary Plus t v = Some v
unary Minus t v = arithmetic t (neg_ℤ v)
unary Flip t v = Some (value_of t (2 ^ width t - 1 - bits_of t v))
unary Not t v = Some (truth (int_eq v (pos 0)))

-- the type of what a unary operator gives
abbrev pub unary_type : UnaryOp → IntType → IntType
unary_type Not t = Int
unary_type _ t = t

-- a binary operator at values of type t; a shift's right operand has a type of its own
unfoldable pub binary : BinaryOp → IntType → ℤ → ℤ → Option ℤ
binary Mul t a b = arithmetic t (a *ℤ b)
binary Div t a b = quotient t a b
binary Rem t a b = option_map (λ q. a -ℤ (q *ℤ b)) (quotient t a b)
binary Add t a b = arithmetic t (a +ℤ b)
binary Sub t a b = arithmetic t (a -ℤ b)
binary Shl t a b = option_and_then (shift_left t a) (shift_amount t b)
binary Shr t a b = option_map (shift_right a) (shift_amount t b)
binary Less t a b = Some (truth (int_lt a b))
binary Greater t a b = Some (truth (int_lt b a))
binary AtMost t a b = Some (truth (int_le a b))
binary AtLeast t a b = Some (truth (int_le b a))
binary Equal t a b = Some (truth (int_eq a b))
binary Unequal t a b = Some (truth (not (int_eq a b)))
binary And t a b = Some (value_of t (bit_and (bits_of t a) (bits_of t b)))
binary Xor t a b = Some (value_of t (bit_xor (bits_of t a) (bits_of t b)))
binary Or t a b = Some (value_of t (bit_or (bits_of t a) (bits_of t b)))

-- the type of what a binary operator gives: int for a comparison (6.5.8, 6.5.9)
abbrev pub binary_type : BinaryOp → IntType → IntType
binary_type Less t = Int
binary_type Greater t = Int
binary_type AtMost t = Int
binary_type AtLeast t = Int
binary_type Equal t = Int
binary_type Unequal t = Int
binary_type _ t = t

-- b may stand on the right of the operator: a shift takes a value of any type there
abbrev pub IsRightOperand : BinaryOp → IntType → ℤ → Type 0
IsRightOperand Shl t b = (least Long ≤ℤ b) × (b ≤ℤ greatest ULong)
IsRightOperand Shr t b = (least Long ≤ℤ b) × (b ≤ℤ greatest ULong)
IsRightOperand _ t b = LiesIn t b

-- The laws of the operators: a result lies in its type, and what the operators give in other words.
use Rattle.std.proofs.Common.{◌≡◌, ℕ, suc, ◌+◌, ◌-◌, ◌*◌, ◌/◌, ◌%◌, ◌^◌, ◌<◌, ℤ, pos, negsuc, neg_ℤ, ◌+ℤ◌, ◌-ℤ◌, ◌*ℤ◌, ◌≤ℤ◌, Bool, true, false, cond, IfSome, int_div, int_rem, unsigned_abs, Option, Some, None, arith, refl, ap, div-le_self, pow_pos}
use Rattle.std.proofs.lemmas.Int.{ints, quot-rem}
use Rattle.std.proofs.Math.Nat.{mod-le}
use Rattle.std.specs.Option.{option_map, option_and_then}
use Rattle.std.specs.Ordering.{int_eq}
use Rattle.c_arith.specs.declared.int_type.IntType.{IntType}
use Rattle.c_arith.specs.declared.int_type.IntType.TheVariants.{Int}
use Rattle.c_arith.specs.declared.operators.UnaryOp.{UnaryOp}
use Rattle.c_arith.specs.declared.operators.UnaryOp.TheVariants.{Plus, Minus, Flip, Not}
use Rattle.c_arith.specs.declared.operators.BinaryOp.{BinaryOp}
use Rattle.c_arith.specs.declared.operators.BinaryOp.TheVariants.{Mul, Div, Rem, Add, Sub, Shl, Shr, Less, Greater, AtMost, AtLeast, Equal, Unequal, And, Xor, Or}
use Rattle.c_arith.specs.IntType.{width, is_signed, LiesIn, lies_in, IsCongruent, convert}
use Rattle.c_arith.specs.Operators.{representable, arithmetic, quotient, shift_amount, shift_left, shift_right, bits_of, value_of, truth, unary, unary_type, binary, binary_type, IsRightOperand}
use Rattle.c_arith.proofs.IntTypeLaws.{LiesIn-zero, LiesIn-bounds, lies_in-true, LiesIn-convert, convert_unique, convert_same}
use Rattle.c_arith.proofs.Wrapping.{IsCongruent-sym, residue}

-- ---- a result lies in its type

-- the numbers between 0 and a value of the type are values of the type
pub LiesIn-between : (t : IntType) (a z : ℤ) → LiesIn t a → pos 0 ≤ℤ z → z ≤ℤ a → LiesIn t z
LiesIn-between t a z h p q = let zero = LiesIn-zero t in record { from_least = omega (arith, ints); to_greatest = omega (arith, ints) }

pub LiesIn-between_below : (t : IntType) (a z : ℤ) → LiesIn t a → a ≤ℤ z → z ≤ℤ pos 0 → LiesIn t z
LiesIn-between_below t a z h p q = let zero = LiesIn-zero t in record { from_least = omega (arith, ints); to_greatest = omega (arith, ints) }

pub LiesIn-representable : (t : IntType) (z : ℤ) → IfSome (representable t z) (LiesIn t)
LiesIn-representable t z = by (lies_in t z) refl
  where
    by : (b : Bool) → lies_in t z ≡ b → IfSome (cond b (Some z) None) (LiesIn t)
    by true e = lies_in-true t z e
    by false e = tt

pub LiesIn-arithmetic : (t : IntType) (z : ℤ) → IfSome (arithmetic t z) (LiesIn t)
LiesIn-arithmetic t z = by (is_signed t)
  where
    by : (b : Bool) → IfSome (cond b (representable t z) (Some (convert z t))) (LiesIn t)
    by true = LiesIn-representable t z
    by false = LiesIn-convert z t

pub LiesIn-quotient : (t : IntType) (a b : ℤ) → IfSome (quotient t a b) (LiesIn t)
LiesIn-quotient t a b = by (int_eq b (pos 0))
  where
    by : (e : Bool) → IfSome (cond e None (representable t (int_div a b))) (LiesIn t)
    by true = tt
    by false = LiesIn-representable t (int_div a b)

pub LiesIn-int_rem : (t : IntType) (a b : ℤ) → LiesIn t a → LiesIn t (int_rem a b)
LiesIn-int_rem t (pos a) b h = LiesIn-between t (pos a) (pos (a % unsigned_abs b)) h (omega (arith, ints)) (omega (arith, ints, mod-le a (unsigned_abs b)))
LiesIn-int_rem t (negsuc a) b h =
    LiesIn-between_below t (negsuc a) (neg_ℤ (pos (suc a % unsigned_abs b))) h (omega (arith, ints, mod-le (suc a) (unsigned_abs b))) (omega (arith, ints))

-- what is left of a after the quotient times b, where there is a quotient
pub remainder-is : (a b : ℤ) → a -ℤ (int_div a b *ℤ b) ≡ int_rem a b
remainder-is a b = omega (arith, ints, quot-rem a b)

LiesIn-rem : (t : IntType) (a b : ℤ) → LiesIn t a → IfSome (option_map (λ q. a -ℤ (q *ℤ b)) (quotient t a b)) (LiesIn t)
LiesIn-rem t a b h = by (int_eq b (pos 0)) (lies_in t (int_div a b))
  where
    by : (e f : Bool) → IfSome (option_map (λ q. a -ℤ (q *ℤ b)) (cond e None (cond f (Some (int_div a b)) None))) (LiesIn t)
    by true f = tt
    by false true = rw (remainder-is a b) (LiesIn-int_rem t a b h)
    by false false = tt

LiesIn-shl : (t : IntType) (a : ℤ) (amount : Option ℕ) → IfSome (option_and_then (shift_left t a) amount) (LiesIn t)
LiesIn-shl t a None = tt
LiesIn-shl t (pos a) (Some k) = LiesIn-arithmetic t (pos (a * 2 ^ k))
LiesIn-shl t (negsuc a) (Some k) = tt

pub LiesIn-shr : (t : IntType) (a : ℤ) (amount : Option ℕ) → LiesIn t a → IfSome (option_map (shift_right a) amount) (LiesIn t)
LiesIn-shr t a None h = tt
LiesIn-shr t (pos a) (Some k) h = LiesIn-between t (pos a) (pos (a / 2 ^ k)) h (omega (arith, ints)) (omega (arith, ints, div-le_self a (2 ^ k)))
LiesIn-shr t (negsuc a) (Some k) h =
    LiesIn-between_below t (negsuc a) (negsuc (a / 2 ^ k)) h (omega (arith, ints, div-le_self a (2 ^ k))) (omega (arith, ints))

-- a comparison gives 0 or 1
pub LiesIn-truth : (b : Bool) → LiesIn Int (truth b)
LiesIn-truth true = record { from_least = omega (arith, ints); to_greatest = omega (arith, ints) }
LiesIn-truth false = LiesIn-zero Int

pub LiesIn-unary : (op : UnaryOp) (t : IntType) (v : ℤ) → LiesIn t v → IfSome (unary op t v) (LiesIn (unary_type op t))
unfolding unary
LiesIn-unary Plus t v h = h
LiesIn-unary Minus t v h = LiesIn-arithmetic t (neg_ℤ v)
LiesIn-unary Flip t v h = LiesIn-convert _ t
LiesIn-unary Not t v h = LiesIn-truth _

pub LiesIn-binary : (op : BinaryOp) (t : IntType) (a b : ℤ) → LiesIn t a → IfSome (binary op t a b) (LiesIn (binary_type op t))
unfolding binary
LiesIn-binary Mul t a b h = LiesIn-arithmetic t (a *ℤ b)
LiesIn-binary Div t a b h = LiesIn-quotient t a b
LiesIn-binary Rem t a b h = LiesIn-rem t a b h
LiesIn-binary Add t a b h = LiesIn-arithmetic t (a +ℤ b)
LiesIn-binary Sub t a b h = LiesIn-arithmetic t (a -ℤ b)
LiesIn-binary Shl t a b h = LiesIn-shl t a (shift_amount t b)
LiesIn-binary Shr t a b h = LiesIn-shr t a (shift_amount t b) h
LiesIn-binary Less t a b h = LiesIn-truth _
LiesIn-binary Greater t a b h = LiesIn-truth _
LiesIn-binary AtMost t a b h = LiesIn-truth _
LiesIn-binary AtLeast t a b h = LiesIn-truth _
LiesIn-binary Equal t a b h = LiesIn-truth _
LiesIn-binary Unequal t a b h = LiesIn-truth _
LiesIn-binary And t a b h = LiesIn-convert _ t
LiesIn-binary Xor t a b h = LiesIn-convert _ t
LiesIn-binary Or t a b h = LiesIn-convert _ t

-- ---- operands

-- a value of the common type may stand on the right of every operator
pub IsRightOperand-same : (op : BinaryOp) (t : IntType) (b : ℤ) → LiesIn t b → IsRightOperand op t b
IsRightOperand-same Shl t b h = LiesIn-bounds t b h
IsRightOperand-same Shr t b h = LiesIn-bounds t b h
IsRightOperand-same _ t b h = h

-- ---- the operators in other words

-- `%` gives what is left after the truncated quotient, where `/` is defined
pub binary-Rem : (t : IntType) (a b q : ℤ) → binary Div t a b ≡ Some q → binary Rem t a b ≡ Some (a -ℤ (q *ℤ b))
unfolding binary
binary-Rem t a b q e = ap (option_map (λ q. a -ℤ (q *ℤ b))) e

pub binary-Rem_undefined : (t : IntType) (a b : ℤ) → binary Div t a b ≡ None → binary Rem t a b ≡ None
unfolding binary
binary-Rem_undefined t a b e = ap (option_map (λ q. a -ℤ (q *ℤ b))) e

-- the bits of z stand for z
bits_of-congruent : (t : IntType) (z : ℤ) → IsCongruent (2 ^ width t) (pos (bits_of t z)) z
bits_of-congruent t z = let r = residue (2 ^ width t) z (pow_pos (width t)) in rw r.is r.near

bits_of-below : (t : IntType) (z : ℤ) → bits_of t z < 2 ^ width t
bits_of-below t z = let r = residue (2 ^ width t) z (pow_pos (width t)) in rw r.is r.below

-- a value is that of its bits
pub value_of-bits_of : (t : IntType) (z : ℤ) → LiesIn t z → value_of t (bits_of t z) ≡ z
value_of-bits_of t z h = convert_unique (pos (bits_of t z)) t z h (IsCongruent-sym (bits_of-congruent t z))

-- `~v` is -v - 1
pub unary-Flip : (t : IntType) (v : ℤ) → unary Flip t v ≡ Some (convert (neg_ℤ v -ℤ pos 1) t)
unfolding unary
unary-Flip t v =
    let c = bits_of-congruent t v in
    let same = c.same in
    let small = bits_of-below t v in
    ap Some (convert_same t (pos (2 ^ width t - 1 - bits_of t v)) (neg_ℤ v -ℤ pos 1)
    (record { more = c.less; less = c.more + 1; same = omega (arith, ints) }))

-- What the operations on `i128` give at values of the integer types.
use Rattle.std.proofs.Common.{◌≡◌, ◌≢◌, ℕ, zero, suc, ◌+◌, ◌-◌, ◌*◌, ◌/◌, ◌%◌, ◌^◌, ◌<◌, ◌≤◌, ℤ, pos, negsuc, neg_ℤ, ◌*ℤ◌, Bool, true, false, cond, nat_lt, int_div, int_eq, unsigned_abs, Some, None, SFits, arith, refl, sym, ap, ◌∙◌, ltb-true, div-le_self, mod-eq_of_lt, mul-le-mul, pow_mono, pow_pos, true≢false}
use Rattle.std.proofs.lemmas.Int.{ints, to_z_pos, fits_signed_from_abs, fits_signed_mul, wrapping_mul_is, int_wrap_fits}
use Rattle.std.proofs.lemmas.Nat.{pow-add}
use Rattle.std.specs.Int.{w128, cast_signed, cast_unsigned, int_wrapping_mul, int_wrap}
use Rattle.std.specs.Cmp.{signed_Decides}
use Rattle.c_arith.specs.declared.int_type.IntType.{IntType}
use Rattle.c_arith.specs.declared.int_type.IntType.TheVariants.{Char, UChar, Short, UShort, Int, UInt, Long, ULong}
use Rattle.c_arith.specs.IntType.{width, is_signed, LiesIn, lies_in, IsCongruent}
use Rattle.c_arith.specs.Operators.{representable, arithmetic, quotient, shift_amount}
use Rattle.c_arith.proofs.IntTypeLaws.{LiesIn-bounds, convert_same}
use Rattle.c_arith.proofs.Wrapping.{IsCongruent-trans, IsCongruent-divisor, residue}

-- a value of a type, however it was cast, is within an `i128`
pub SFits-LiesIn : (t : IntType) (z : ℤ) → LiesIn t z → SFits w128 z
SFits-LiesIn t z h = let b = LiesIn-bounds t z h in omega (arith, ints)

abs_LiesIn : (t : IntType) (z : ℤ) → LiesIn t z → unsigned_abs z ≤ 2 ^ 64
abs_LiesIn t z h = let b = LiesIn-bounds t z h in omega (arith, ints)

-- ---- quotients

abs_neg : (n : ℕ) → unsigned_abs (neg_ℤ (pos n)) ≡ n
abs_neg zero = refl
abs_neg (suc n) = refl

abs_int_div : (a b : ℤ) → unsigned_abs (int_div a b) ≤ unsigned_abs a
abs_int_div (pos a) (pos b) = div-le_self a b
abs_int_div (pos a) (negsuc b) = omega (arith, abs_neg (a / suc b), div-le_self a (suc b))
abs_int_div (negsuc a) (pos b) = omega (arith, abs_neg (suc a / b), div-le_self (suc a) b)
abs_int_div (negsuc a) (negsuc b) = div-le_self (suc a) (suc b)

pub SFits-int_div : (t : IntType) (a b : ℤ) → LiesIn t a → SFits w128 (int_div a b)
SFits-int_div t a b h = fits_signed_from_abs w128 (int_div a b) (omega (arith, abs_int_div a b, abs_LiesIn t a h))

pub bits_positive : (b : ℤ) → SFits w128 b → b ≢ pos 0 → 0 < cast_unsigned w128 b
bits_positive (pos zero) f n = absurd (n refl)
bits_positive (pos (suc b)) f n = omega arith
bits_positive (negsuc b) f n = let s = f.sfits in omega arith

-- the quotient is there: the divisor is not 0, and the quotient is the exact one
pub quotient-Some : (t : IntType) (a b q : ℤ) → Some q ≡ quotient t a b → (b ≢ pos 0) × (q ≡ int_div a b)
quotient-Some t a b q e = by (int_eq b (pos 0)) refl (lies_in t (int_div a b)) e
  where
    by : (c : Bool) → int_eq b (pos 0) ≡ c → (d : Bool) → Some q ≡ cond c None (cond d (Some (int_div a b)) None) → (b ≢ pos 0) × (q ≡ int_div a b)
    by true f d e = absurd (cc)
    by false f true e = ((λ z. true≢false (sym ((signed_Decides b (pos 0)).1 z) ∙ f)), (cc))
    by false f false e = absurd (cc)

-- the divisor is not 0: the quotient is the exact one, if the type has it
pub quotient-nonzero : (t : IntType) (a b : ℤ) → b ≢ pos 0 → quotient t a b ≡ representable t (int_div a b)
quotient-nonzero t a b n = by (int_eq b (pos 0)) refl
  where
    by : (c : Bool) → int_eq b (pos 0) ≡ c → cond c None (representable t (int_div a b)) ≡ representable t (int_div a b)
    by true f = absurd (n ((signed_Decides b (pos 0)).0 f))
    by false f = refl

-- ---- shifts

width-le : (t : IntType) → width t ≤ 64
width-le t = grind arith

pub shift_amount-Some : (t : IntType) (b : ℤ) (k : ℕ) → Some k ≡ shift_amount t b → k < width t
shift_amount-Some t (pos b) k e = by (nat_lt b (width t)) refl e
  where
    by : (c : Bool) → nat_lt b (width t) ≡ c → Some k ≡ cond c (Some b) None → k < width t
    by true f e = let same : k ≡ b = cc in let below = ltb-true b (width t) f in omega arith
    by false f e = absurd (cc)
shift_amount-Some t (negsuc b) k e = absurd (cc)

-- a left shift of a value that is not negative loses nothing
pub shl-is : (t : IntType) (a k : ℕ) → LiesIn t (pos a) → k < width t → cast_signed w128 (a * 2 ^ k % 2 ^ 128) ≡ pos (a * 2 ^ k)
shl-is t a k h p =
    let b = LiesIn-bounds t (pos a) h in
    let top : a ≤ 2 ^ 64 - 1 = omega (arith, ints) in
    let amount : k ≤ 63 = omega (arith, width-le t) in
    let power : 2 ^ k ≤ 2 ^ 63 = pow_mono amount in
    let small : a * 2 ^ k < 2 ^ 127 = omega (arith, mul-le-mul top power) in
    ap (cast_signed w128) (mod-eq_of_lt (omega arith)) ∙ to_z_pos w128 (a * 2 ^ k) small

-- ---- products

-- what wraps is a multiple of 2 to the 128
int_wrap-congruent : (z : ℤ) → IsCongruent (2 ^ 128) (int_wrap w128 z) z
unfolding int_wrap
int_wrap-congruent z =
    let r = residue (2 ^ 128) z (pow_pos 128) in
    rw r.is (IsCongruent-trans (read r.left r.below) r.near)
  where
    read : (n : ℕ) → n < 2 ^ 128 → IsCongruent (2 ^ 128) (cast_signed w128 n) (pos n)
    read n h = by (nat_lt n (2 ^ 127)) refl
      where
        by : (b : Bool) → nat_lt n (2 ^ 127) ≡ b → IsCongruent (2 ^ 128) (cond b (pos n) (negsuc (2 ^ 128 - suc n))) (pos n)
        by true e = record { more = 0; less = 0; same = refl }
        by false e = record { more = 1; less = 0; same = omega (arith, ints) }

modulus_divides : (t : IntType) → 2 ^ (128 - width t) * 2 ^ width t ≡ 2 ^ 128
modulus_divides t =
    let sum : 128 - width t + width t ≡ 128 = omega (arith, width-le t) in
    sym (pow-add 2 (128 - width t) (width t)) ∙ ap (λ n. 2 ^ n) sum

abs_signed : (t : IntType) (z : ℤ) → is_signed t ≡ true → LiesIn t z → unsigned_abs z ≤ 2 ^ 63
abs_signed Char z s h = omega (arith, ints)
abs_signed UChar z s h = cc
abs_signed Short z s h = omega (arith, ints)
abs_signed UShort z s h = cc
abs_signed Int z s h = omega (arith, ints)
abs_signed UInt z s h = cc
abs_signed Long z s h = omega (arith, ints)
abs_signed ULong z s h = cc

pub product-is : (t : IntType) (a b : ℤ) → LiesIn t a → LiesIn t b → arithmetic t (int_wrapping_mul w128 a b) ≡ arithmetic t (a *ℤ b)
product-is t a b h k = ap (arithmetic t) (wrapping_mul_is w128 a b (SFits-LiesIn t a h) (SFits-LiesIn t b k)) ∙ by (is_signed t) refl
  where
    by : (s : Bool) → is_signed t ≡ s → arithmetic t (int_wrap w128 (a *ℤ b)) ≡ arithmetic t (a *ℤ b)
    by true e = ap (arithmetic t) (int_wrap_fits w128 (a *ℤ b) (fits_signed_mul w128 a b (2 ^ 63) (2 ^ 63) (abs_signed t a e h) (abs_signed t b e k) (omega arith)))
    by false e = rw e (ap Some (convert_same t _ _ (IsCongruent-divisor (2 ^ 128) (2 ^ width t) (2 ^ (128 - width t)) (modulus_divides t) (int_wrap-congruent (a *ℤ b)))))

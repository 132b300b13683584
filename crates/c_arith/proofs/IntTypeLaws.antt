-- The laws of the integer types: what their values are, that a conversion gives one, and which types promotion and the common type give.
use Rattle.std.proofs.Common.{◌≡◌, ℕ, ◌+◌, ◌^◌, ◌≤◌, ℤ, pos, ◌+ℤ◌, ◌-ℤ◌, ◌≤ℤ◌, ◌<ℤ◌, IsTrue, arith, refl, sym, ◌∙◌, pow_pos}
use Rattle.std.proofs.lemmas.Int.{ints}
use Rattle.std.proofs.lemmas.Bool.Decides.{nat_tests}
use Rattle.std.specs.Int.{int_rem_euclid}
use Rattle.c_arith.specs.declared.int_type.IntType.{IntType}
use Rattle.c_arith.specs.declared.int_type.IntType.TheVariants.{Char, UChar, Short, UShort, Int, UInt, Long, ULong}
use Rattle.c_arith.specs.IntType.{width, least, greatest, LiesIn, lies_in, IsCongruent, convert, promote, wider, common}
use Rattle.c_arith.proofs.Wrapping.{IsCongruent-sym, IsCongruent-trans, wrapped-least, wrapped-greatest, wrapped-congruent, wrapped_unique, residue}

-- ---- the values of a type

-- a type has as many values as its bits can tell apart
pub greatest-is : (t : IntType) → greatest t +ℤ pos 1 ≡ least t +ℤ pos (2 ^ width t)
greatest-is Char = refl
greatest-is UChar = refl
greatest-is Short = refl
greatest-is UShort = refl
greatest-is Int = refl
greatest-is UInt = refl
greatest-is Long = refl
greatest-is ULong = refl

pub LiesIn-zero : (t : IntType) → LiesIn t (pos 0)
LiesIn-zero Char = record { from_least = omega (arith, ints); to_greatest = omega (arith, ints) }
LiesIn-zero UChar = record { from_least = omega (arith, ints); to_greatest = omega (arith, ints) }
LiesIn-zero Short = record { from_least = omega (arith, ints); to_greatest = omega (arith, ints) }
LiesIn-zero UShort = record { from_least = omega (arith, ints); to_greatest = omega (arith, ints) }
LiesIn-zero Int = record { from_least = omega (arith, ints); to_greatest = omega (arith, ints) }
LiesIn-zero UInt = record { from_least = omega (arith, ints); to_greatest = omega (arith, ints) }
LiesIn-zero Long = record { from_least = omega (arith, ints); to_greatest = omega (arith, ints) }
LiesIn-zero ULong = record { from_least = omega (arith, ints); to_greatest = omega (arith, ints) }

-- the test says whether the value lies in the type
pub lies_in-true : (t : IntType) (z : ℤ) → IsTrue (lies_in t z) → LiesIn t z
lies_in-true t z e = record { from_least = grind (arith, ints); to_greatest = grind (arith, ints) }

pub LiesIn-lies_in : (t : IntType) (z : ℤ) → LiesIn t z → IsTrue (lies_in t z)
LiesIn-lies_in t z h = let low = h.from_least.le in let high = h.to_greatest.le in grind (arith, ints)

-- ---- conversion

-- a converted value lies in its type
pub LiesIn-convert : (z : ℤ) (t : IntType) → LiesIn t (convert z t)
unfolding convert
LiesIn-convert z t =
    let least_so = wrapped-least (least t) (2 ^ width t) z (pow_pos (width t)) in
    let greatest_so = wrapped-greatest (least t) (2 ^ width t) z (pow_pos (width t)) in
    record { from_least = least_so; to_greatest = omega (arith, ints, greatest-is t) }

-- it differs from the value by a multiple of 2 to the width
pub convert-congruent : (z : ℤ) (t : IntType) → IsCongruent (2 ^ width t) (convert z t) z
unfolding convert
convert-congruent z t = wrapped-congruent (least t) (2 ^ width t) z (pow_pos (width t))

-- and no other value of the type does
pub convert_unique : (z : ℤ) (t : IntType) (r : ℤ) → LiesIn t r → IsCongruent (2 ^ width t) r z → convert z t ≡ r
unfolding convert
convert_unique z t r h c = wrapped_unique (least t) (2 ^ width t) z r h.from_least (omega (arith, ints, greatest-is t)) c

-- a value of the type converts to itself
pub convert-LiesIn : (z : ℤ) (t : IntType) → LiesIn t z → convert z t ≡ z
convert-LiesIn z t h = convert_unique z t z h (record { more = 0; less = 0; same = refl })

-- numbers that differ by a multiple of 2 to the width are converted to the same value
pub convert_same : (t : IntType) (y z : ℤ) → IsCongruent (2 ^ width t) y z → convert y t ≡ convert z t
convert_same t y z c = convert_unique y t (convert z t) (LiesIn-convert z t) (IsCongruent-trans (convert-congruent z t) (IsCongruent-sym c))

-- how a conversion is computed from what is left modulo 2 to the width
module _ (z : ℤ) (t : IntType) where
  pub convert-residue : int_rem_euclid z (pos (2 ^ width t)) ≤ℤ greatest t → convert z t ≡ int_rem_euclid z (pos (2 ^ width t))
  convert-residue h =
      let r = residue (2 ^ width t) z (pow_pos (width t)) in
      let zero = LiesIn-zero t in
      let is = r.is in
      is_at r.left is r.near (omega (arith, ints))
    where
      is_at : (n : ℕ) → int_rem_euclid z (pos (2 ^ width t)) ≡ pos n → IsCongruent (2 ^ width t) (pos n) z → pos n ≤ℤ greatest t → convert z t ≡ int_rem_euclid z (pos (2 ^ width t))
      is_at n e near top =
          let zero = LiesIn-zero t in
          convert_unique z t (pos n) (record { from_least = omega (arith, ints); to_greatest = top }) near ∙ sym e

  pub convert-residue_above : greatest t <ℤ int_rem_euclid z (pos (2 ^ width t)) → convert z t ≡ int_rem_euclid z (pos (2 ^ width t)) -ℤ pos (2 ^ width t)
  convert-residue_above h =
      let r = residue (2 ^ width t) z (pow_pos (width t)) in
      let is = r.is in
      let below = r.below in
      let zero = LiesIn-zero t in
      let near = r.near.same in
      rw is (convert_unique z t (pos r.left -ℤ pos (2 ^ width t))
      (record { from_least = omega (arith, ints, greatest-is t); to_greatest = omega (arith, ints) })
      (record { more = r.near.more + 1; less = r.near.less; same = omega (arith, ints) }))

-- ---- promotion and the common type

pub width-promote : (t : IntType) → width t ≤ width (promote t)
width-promote t = grind (arith, nat_tests)

pub width-wider_left : (a b : IntType) → width a ≤ width (wider a b)
width-wider_left a b = grind (arith, nat_tests)

pub width-wider_right : (a b : IntType) → width b ≤ width (wider a b)
width-wider_right a b = grind (arith, nat_tests)

pub width-common_left : (a b : IntType) → width a ≤ width (common a b)
width-common_left a b = omega (arith, width-promote a, width-wider_left (promote a) (promote b))

pub width-common_right : (a b : IntType) → width b ≤ width (common a b)
width-common_right a b = omega (arith, width-promote b, width-wider_right (promote a) (promote b))

-- promotion keeps a value
pub LiesIn-promote : (t : IntType) (z : ℤ) → LiesIn t z → LiesIn (promote t) z
LiesIn-promote Char z h = record { from_least = omega (arith, ints); to_greatest = omega (arith, ints) }
LiesIn-promote UChar z h = record { from_least = omega (arith, ints); to_greatest = omega (arith, ints) }
LiesIn-promote Short z h = record { from_least = omega (arith, ints); to_greatest = omega (arith, ints) }
LiesIn-promote UShort z h = record { from_least = omega (arith, ints); to_greatest = omega (arith, ints) }
LiesIn-promote Int z h = h
LiesIn-promote UInt z h = h
LiesIn-promote Long z h = h
LiesIn-promote ULong z h = h

-- a value of any type lies from the least signed to the greatest unsigned one
pub LiesIn-bounds : (t : IntType) (z : ℤ) → LiesIn t z → (least Long ≤ℤ z) × (z ≤ℤ greatest ULong)
LiesIn-bounds t z h = let b = bounds t in (omega (arith, ints), omega (arith, ints))
  where
    bounds : (t : IntType) → (least Long ≤ℤ least t) × (greatest t ≤ℤ greatest ULong)
    bounds Char = (omega (arith, ints), omega (arith, ints))
    bounds UChar = (omega (arith, ints), omega (arith, ints))
    bounds Short = (omega (arith, ints), omega (arith, ints))
    bounds UShort = (omega (arith, ints), omega (arith, ints))
    bounds Int = (omega (arith, ints), omega (arith, ints))
    bounds UInt = (omega (arith, ints), omega (arith, ints))
    bounds Long = (omega (arith, ints), omega (arith, ints))
    bounds ULong = (omega (arith, ints), omega (arith, ints))

-- The integer types of C99 (6.2.5), of 8, 16, 32 and 64 bits in two's complement, with a signed char: what values they have, and how a value is converted.
use Rattle.std.specs.Prelude.{◌≡◌, ◌≤ℤ◌, ◌+ℤ◌, ◌-ℤ◌, ◌-◌, ◌*◌, ◌^◌, ◌&&◌, ℕ, ℤ, pos, neg_ℤ, Bool, true, false, if◌then◌else◌, nat_lt, int_le}
use Rattle.std.specs.Int.{int_rem_euclid}
use Rattle.c_arith.specs.declared.int_type.IntType.{IntType}
use Rattle.c_arith.specs.declared.int_type.IntType.TheVariants.{Char, UChar, Short, UShort, Int, UInt, Long, ULong}

-- how many bits a value has, the sign bit among them (6.2.6.2)
abbrev pub width : IntType → ℕ
width Char = 8
width UChar = 8
width Short = 16
width UShort = 16
width Int = 32
width UInt = 32
width Long = 64
width ULong = 64

-- whether the type has negative values
abbrev pub is_signed : IntType → Bool
is_signed Char = true
is_signed UChar = false
is_signed Short = true
is_signed UShort = false
is_signed Int = true
is_signed UInt = false
is_signed Long = true
is_signed ULong = false

-- the least value: one bit of a signed type is the sign bit
abbrev pub least : IntType → ℤ
least t = if is_signed t then neg_ℤ (pos (2 ^ (width t - 1))) else pos 0

-- the greatest value
abbrev pub greatest : IntType → ℤ
greatest t = if is_signed t then pos (2 ^ (width t - 1) - 1) else pos (2 ^ width t - 1)

-- z is a value of type t
pub record LiesIn (t : IntType) (z : ℤ) : Type 0 where
  pub from_least : least t ≤ℤ z
  pub to_greatest : z ≤ℤ greatest t

-- the same, as a test
abbrev pub lies_in : IntType → ℤ → Bool
lies_in t z = int_le (least t) z && int_le z (greatest t)

-- a and b differ by a multiple of m
pub record IsCongruent (m : ℕ) (a b : ℤ) : Type 0 where
  pub more : ℕ
  pub less : ℕ
  pub same : a +ℤ pos (more * m) ≡ b +ℤ pos (less * m)

-- z converted to type t: the value of t that differs from z by a multiple of 2 to the width (6.3.1.3, which leaves a signed t to the implementation)
unfoldable pub convert : ℤ → IntType → ℤ
convert z t = least t +ℤ int_rem_euclid (z -ℤ least t) (pos (2 ^ width t))

-- the integer promotions (6.3.1.1): a type narrower than int becomes int
abbrev pub promote : IntType → IntType
promote t = if nat_lt (width t) (width Int) then Int else t

-- the wider of two types, and of two of one width the unsigned one
abbrev pub wider : IntType → IntType → IntType
wider a b = if nat_lt (width a) (width b) then b else (if nat_lt (width b) (width a) then a else (if is_signed a then b else a))

-- the usual arithmetic conversions (6.3.1.8): the common type of two operands
abbrev pub common : IntType → IntType → IntType
common a b = wider (promote a) (promote b)

-- What constants and literals are worth: the value and the type of an integer constant (ISO C99 6.4.4.1), the value of a character constant (6.4.4.4) and the bytes of a string literal (6.4.5).
use Rattle.std.specs.Prelude.{◌≡◌, ℕ, ◌+◌, ◌-◌, ◌*◌, ◌==◌, nat_le, nat_lt, pos, List, [], ◌∷◌, ◌++◌, length, take, drop, Bool, true, false, ◌&&◌, ◌||◌, if◌then◌else◌, Option, Some, None, codes, find, fold, slice_index, take_while, option_and_then}
use Rattle.std.specs.List.{list_any}
use Rattle.c_arith.specs.declared.int_type.IntType.{IntType}
use Rattle.c_arith.specs.declared.int_type.IntType.TheVariants.{Int, UInt, Long, ULong}
use Rattle.c_arith.specs.IntType.{lies_in}
use Rattle.c_language.specs.Words.{Bytes}

-- ---- digits

-- whether the byte is one of these
abbrev pub is_one_of : Bytes → ℕ → Bool
is_one_of some b = list_any (λ c. c == b) some

-- whether a spelling begins with `0x` or `0X`
abbrev pub is_hexadecimal : Bytes → Bool
is_hexadecimal text = (slice_index text 0 == 48) && is_one_of (codes "xX") (slice_index text 1)

-- 16, 8 or 10; a `0` alone may be read as octal, since it has the same types
abbrev pub base : Bytes → ℕ
base text = if is_hexadecimal text then 16 else (if slice_index text 0 == 48 then 8 else 10)

-- what a digit is worth, and 16 where the byte is none
abbrev pub digit_value : ℕ → ℕ
digit_value b =
    if nat_le 48 b && nat_le b 57 then b - 48
    else (if nat_le 65 b && nat_le b 70 then b - 55
    else (if nat_le 97 b && nat_le b 102 then b - 87
    else 16))

-- the spelling without `0x`
abbrev pub unprefixed : Bytes → Bytes
unprefixed text = if is_hexadecimal text then drop 2 text else text

-- the digits at the front, in this base
abbrev pub leading_digits : ℕ → Bytes → Bytes
leading_digits n bytes = take_while (λ b. nat_lt (digit_value b) n) bytes

-- the value of digits, behind a number
abbrev pub value_from : ℕ → ℕ → Bytes → ℕ
value_from n v ds = fold (λ v d. v * n + digit_value d) v ds

abbrev pub digits : Bytes → Bytes
digits text = leading_digits (base text) (unprefixed text)

-- the value of a constant
unfoldable pub constant_value : Bytes → ℕ
constant_value text = value_from (base text) 0 (digits text)

-- ---- suffixes and types

-- what a suffix asks for
pub data Suffix : Type 0 where
  plain : Suffix
  unsigned : Suffix
  long : Suffix
  unsigned_long : Suffix

abbrev pub is_u : ℕ → Bool
is_u = is_one_of (codes "uU")

abbrev pub is_l : ℕ → Bool
is_l = is_one_of (codes "lL")

-- the suffix that some bytes are: none, `u`, `l`, `ul` or `lu`, in either case of letters
abbrev pub suffix_of : Bytes → Option Suffix
suffix_of [] = Some Suffix.plain
suffix_of (a ∷ []) = if is_u a then Some Suffix.unsigned else (if is_l a then Some Suffix.long else None)
suffix_of (a ∷ (b ∷ [])) = if (is_u a && is_l b) || (is_l a && is_u b) then Some Suffix.unsigned_long else None
suffix_of (a ∷ (b ∷ (c ∷ more))) = None

-- the types that a constant may have, in their order; a decimal one without `u` has no unsigned type
abbrev pub types_of : Bool → Suffix → List IntType
types_of is_decimal Suffix.plain = if is_decimal then Int ∷ Long ∷ [] else Int ∷ UInt ∷ Long ∷ ULong ∷ []
types_of is_decimal Suffix.unsigned = UInt ∷ ULong ∷ []
types_of is_decimal Suffix.long = if is_decimal then Long ∷ [] else Long ∷ ULong ∷ []
types_of is_decimal Suffix.unsigned_long = ULong ∷ []

-- the suffix of a spelling: what follows its digits
abbrev pub suffix : Bytes → Option Suffix
suffix text = suffix_of (drop (length (digits text)) (unprefixed text))

-- the first type of a suffix that holds a value
abbrev pub first_type : Bool → ℕ → Suffix → Option IntType
first_type is_decimal v s = find (λ t. lies_in t (pos v)) (types_of is_decimal s)

-- the type of a constant, where the spelling is one: digits and a suffix, with a type that holds the value
unfoldable pub constant_type : Bytes → Option IntType
constant_type text = if length (digits text) == 0 then None else option_and_then (first_type (base text == 10) (constant_value text)) (suffix text)

-- the spelling is a constant
abbrev pub IsConstant : Bytes → Type 0
IsConstant text = (t : IntType) × (constant_type text ≡ Some t)

-- ---- characters and strings

-- the letters of the escapes, each with its value
abbrev pub escapes : List (ℕ × ℕ)
escapes =
    (110, 10) ∷ (116, 9) ∷ (114, 13) ∷ (97, 7) ∷ (98, 8) ∷ (102, 12) ∷ (118, 11) ∷ (48, 0) ∷ (92, 92) ∷ (39, 39) ∷ (34, 34) ∷ (63, 63) ∷ []

-- whether a byte behind a backslash makes an escape
abbrev pub is_escape : ℕ → Bool
is_escape b = list_any (λ (e : ℕ × ℕ). e.0 == b) escapes

-- the value of an escape, and 0 where the byte makes none
abbrev pub escape_value : ℕ → ℕ
escape_value b = fold (λ v (e : ℕ × ℕ). if e.0 == b then e.1 else v) 0 escapes

-- what a byte adds to the bytes that are spelled; the flag says that it stands behind a backslash
abbrev pub spelled_by : Bool → ℕ → Bytes
spelled_by true b = escape_value b ∷ []
spelled_by false b = if b == 92 then [] else b ∷ []

-- whether the next byte stands behind a backslash
abbrev pub escapes_next : Bool → ℕ → Bool
escapes_next true b = false
escapes_next false b = b == 92

-- the bytes that a spelling without its quotes stands for
unfoldable pub unescaped : Bool → Bytes → Bytes
unescaped behind [] = []
unescaped behind (b ∷ bs) = spelled_by behind b ++ unescaped (escapes_next behind b) bs

-- the spelling without its quotes
abbrev pub unquoted : Bytes → Bytes
unquoted text = take (length text - 2) (drop 1 text)

-- the bytes of a string literal, without the null byte at its end
abbrev pub literal_bytes : Bytes → Bytes
literal_bytes text = unescaped false (unquoted text)

-- the value of a character constant, whose type is int
abbrev pub character_value : Bytes → ℕ
character_value text = slice_index (literal_bytes text) 0

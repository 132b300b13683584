-- What printf writes (ISO C99 7.19.6.1): what a conversion prints, and so a format with its arguments.
use Rattle.std.specs.Prelude.{ℤ, List, [], ◌∷◌, ◌++◌, true, false, unwrap_or, unsigned_abs}
use Rattle.std.specs.Fmt.{signed_decimal, digits}
use Rattle.c_arith.specs.declared.int_type.IntType.{IntType}
use Rattle.c_arith.specs.declared.int_type.IntType.TheVariants.{UChar, Int, UInt, Long, ULong}
use Rattle.c_arith.specs.IntType.{convert}
use Rattle.c_language.specs.Words.{Bytes}
use Rattle.c_language.specs.Constants.{literal_bytes}
use Rattle.c_language.specs.Formats.{Conversion, SignedDecimal, UnsignedDecimal, Hexadecimal, Character, Piece, Plain, Converts, format_pieces}

-- the type to which a conversion converts its argument
abbrev pub conversion_type : Conversion → IntType
conversion_type (SignedDecimal false) = Int
conversion_type (SignedDecimal true) = Long
conversion_type (UnsignedDecimal false) = UInt
conversion_type (UnsignedDecimal true) = ULong
conversion_type (Hexadecimal false) = UInt
conversion_type (Hexadecimal true) = ULong
conversion_type Character = UChar

-- a converted argument in the style of its conversion; one of an unsigned type isn't negative
abbrev pub styled : Conversion → ℤ → Bytes
styled (SignedDecimal is_long) z = signed_decimal z
styled (UnsignedDecimal is_long) z = signed_decimal z
styled (Hexadecimal is_long) z = digits 16 false (unsigned_abs z)
styled Character z = unsigned_abs z ∷ []

-- the pieces of a format by its spelling; what has none, which no text can have as a format, writes nothing
abbrev pub pieces_of : Bytes → List Piece
pieces_of format = unwrap_or (format_pieces (literal_bytes format)) []

-- the arguments, each converted to its conversion's type
abbrev pub converted : List Piece → List ℤ → List ℤ
converted [] zs = []
converted (Plain b ∷ ps) zs = converted ps zs
converted (Converts c ∷ ps) [] = []
converted (Converts c ∷ ps) (z ∷ zs) = convert z (conversion_type c) ∷ converted ps zs

-- what a format writes with its converted arguments
abbrev pub written : List Piece → List ℤ → Bytes
written [] zs = []
written (Plain b ∷ ps) zs = b ∷ written ps zs
written (Converts c ∷ ps) [] = []
written (Converts c ∷ ps) (z ∷ zs) = styled c z ++ written ps zs

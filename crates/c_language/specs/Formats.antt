-- The formats of printf (ISO C99 7.19.6.1): what their bytes ask for.
use Rattle.std.specs.Prelude.{ℕ, ◌==◌, Bool, true, false, if◌then◌else◌, List, [], ◌∷◌, Option, Some, None, option_map, option_and_then}
use Rattle.c_language.specs.Words.{Bytes}

-- how an argument is written: `%d`, `%u`, `%x`, or with an `l` for 64 bits, and `%c`
pub data Conversion : Type 0 where
  SignedDecimal : (is_long : Bool) → Conversion
  UnsignedDecimal : (is_long : Bool) → Conversion
  Hexadecimal : (is_long : Bool) → Conversion
  Character : Conversion

-- a byte that is written as it is, or a conversion
pub data Piece : Type 0 where
  Plain : (byte : ℕ) → Piece
  Converts : (conversion : Conversion) → Piece

-- the conversion of a letter
abbrev pub conversion_of : Bool → ℕ → Option Conversion
conversion_of is_long b =
    if b == 100 then Some (SignedDecimal is_long)
    else (if b == 117 then Some (UnsignedDecimal is_long)
    else (if b == 120 then Some (Hexadecimal is_long)
    else (if b == 99 then (if is_long then None else Some Character)
    else None)))

-- where in a format a byte stands
pub data Behind : Type 0 where
  Nothing : Behind
  Percent : Behind
  Long : Behind

abbrev pub plain_piece : ℕ → Option (List Piece) → Option (List Piece)
plain_piece b = option_map (λ (ps : List Piece). Plain b ∷ ps)

abbrev pub converted_piece : Bool → ℕ → Option (List Piece) → Option (List Piece)
converted_piece is_long b rest = option_and_then (λ (c : Conversion). option_map (λ (ps : List Piece). Converts c ∷ ps) rest) (conversion_of is_long b)

abbrev pub pieces_from : Behind → Bytes → Option (List Piece)
pieces_from Nothing [] = Some []
pieces_from Percent [] = None
pieces_from Long [] = None
pieces_from Nothing (b ∷ bs) = if b == 37 then pieces_from Percent bs else plain_piece b (pieces_from Nothing bs)
pieces_from Percent (b ∷ bs) =
    if b == 37 then plain_piece 37 (pieces_from Nothing bs)
    else (if b == 108 then pieces_from Long bs else converted_piece false b (pieces_from Nothing bs))
pieces_from Long (b ∷ bs) = converted_piece true b (pieces_from Nothing bs)

-- the pieces of a format: `%%` writes a percent sign, and a format with any other conversion than these has none
abbrev pub format_pieces : Bytes → Option (List Piece)
format_pieces = pieces_from Nothing

abbrev pub conversions : List Piece → List Conversion
conversions [] = []
conversions (Plain b ∷ ps) = conversions ps
conversions (Converts c ∷ ps) = c ∷ conversions ps

abbrev pub bits : Bool → ℕ
bits true = 64
bits false = 32

-- how many bits the promoted argument of a conversion has
abbrev pub conversion_width : Conversion → ℕ
conversion_width (SignedDecimal is_long) = bits is_long
conversion_width (UnsignedDecimal is_long) = bits is_long
conversion_width (Hexadecimal is_long) = bits is_long
conversion_width Character = 32

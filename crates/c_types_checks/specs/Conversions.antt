-- The conversions of a format, as code takes them from it byte by byte.
use Rattle.std.specs.Prelude.{List, ◌∷◌, Option, None, option_map}
use Rattle.c_language.specs.Words.{Bytes}
use Rattle.c_language.specs.Formats as formats
use Rattle.c_types_checks.specs.declared.conversions.Conversion.{Conversion}
use Rattle.c_types_checks.specs.declared.conversions.Conversion.TheVariants.{SignedDecimal, UnsignedDecimal, Hexadecimal, Character}
use Rattle.c_types_checks.specs.declared.conversions.Behind.{Behind}
use Rattle.c_types_checks.specs.declared.conversions.Behind.TheVariants.{Nothing, Percent, Long}
use Rattle.c_types_checks.specs.declared.conversions.Step.{Step}
use Rattle.c_types_checks.specs.declared.conversions.Step.TheVariants.{Passes, Converts, Fails}

abbrev pub conversion_of : Conversion → formats.Conversion
conversion_of (SignedDecimal is_long) = formats.SignedDecimal is_long
conversion_of (UnsignedDecimal is_long) = formats.UnsignedDecimal is_long
conversion_of (Hexadecimal is_long) = formats.Hexadecimal is_long
conversion_of Character = formats.Character

abbrev pub behind_of : Behind → formats.Behind
behind_of Nothing = formats.Nothing
behind_of Percent = formats.Percent
behind_of Long = formats.Long

-- the conversions of the rest of a format
abbrev pub converted_from : formats.Behind → Bytes → Option (List formats.Conversion)
converted_from behind bytes = option_map formats.conversions (formats.pieces_from behind bytes)

-- the conversions once a byte is passed
abbrev pub converted_after : Step → Bytes → Option (List formats.Conversion)
converted_after (Passes behind) rest = converted_from (behind_of behind) rest
converted_after (Converts c) rest = option_map (λ (cs : List formats.Conversion). conversion_of c ∷ cs) (converted_from formats.Nothing rest)
converted_after Fails rest = None

-- the conversions of a format
abbrev pub converted : Bytes → Option (List formats.Conversion)
converted bytes = option_map formats.conversions (formats.format_pieces bytes)

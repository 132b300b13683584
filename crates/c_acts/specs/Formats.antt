-- Formats of printf, as the code has them.
use Rattle.std.specs.Prelude.{ℤ, List, ◌∷◌, map, Option, None, option_map}
use Rattle.std.specs.Global.{Vec}
use Rattle.c_language.specs.Formats as spec
use Rattle.c_language.specs.Words.{Bytes}
use Rattle.c_meaning.specs.declared.event.Shown.{Shown}
use Rattle.c_meaning.specs.declared.event.Shown.TheVariants as shown
use Rattle.c_acts.specs.declared.formats.Conversion.{Conversion}
use Rattle.c_acts.specs.declared.formats.Conversion.TheVariants as conversion
use Rattle.c_acts.specs.declared.formats.Piece.{Piece}
use Rattle.c_acts.specs.declared.formats.Piece.TheVariants as piece
use Rattle.c_acts.specs.declared.formats.Behind.{Behind}
use Rattle.c_acts.specs.declared.formats.Behind.TheVariants as behind
use Rattle.c_acts.specs.declared.formats.Step.{Step}
use Rattle.c_acts.specs.declared.formats.Step.TheVariants as step

abbrev pub conversion_of : Conversion → spec.Conversion
conversion_of (conversion.SignedDecimal is_long) = spec.SignedDecimal is_long
conversion_of (conversion.UnsignedDecimal is_long) = spec.UnsignedDecimal is_long
conversion_of (conversion.Hexadecimal is_long) = spec.Hexadecimal is_long
conversion_of conversion.Character = spec.Character

abbrev pub piece_of : Piece → spec.Piece
piece_of (piece.Plain b) = spec.Plain b
piece_of (piece.Converts c) = spec.Converts (conversion_of c)

abbrev pub pieces_in : Vec Piece → List spec.Piece
pieces_in ps = map piece_of ps.items

abbrev pub behind_of : Behind → spec.Behind
behind_of behind.Nothing = spec.Nothing
behind_of behind.Percent = spec.Percent
behind_of behind.Long = spec.Long

-- the pieces of a format from where a byte has done this
abbrev pub after_step : Step → Bytes → Option (List spec.Piece)
after_step (step.Passes next) bs = spec.pieces_from (behind_of next) bs
after_step (step.Gives p) bs = option_map (λ (ps : List spec.Piece). piece_of p ∷ ps) (spec.pieces_from spec.Nothing bs)
after_step step.Fails bs = None

abbrev pub shown_numbers : List ℤ → List Shown
shown_numbers zs = map (λ (z : ℤ). shown.Number z) zs

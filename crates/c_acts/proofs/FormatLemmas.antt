-- Formats: their pieces one after another, what their conversions convert, and what they write, as loops collect it.
use Rattle.std.proofs.Common.{◌≡◌, ℕ, ℤ, ◌+◌, List, [], ◌∷◌, ◌++◌, map, drop, append_assoc, Option, Some, None, option_map, refl, sym, ap, ◌∙◌}
use Rattle.std.specs.Global.{Vec}
use Rattle.std.specs.Prelude.{unwrap_or}
use Rattle.c_language.specs.Constants.{literal_bytes}
use Rattle.c_language.specs.Formats as language
use Rattle.c_language.specs.Words.{Bytes}
use Rattle.c_meaning.specs.declared.value.Value.{Value}
use Rattle.c_meaning.specs.Formats as spec
use Rattle.c_meaning.specs.Values.{tested}
use Rattle.c_acts.specs.declared.formats.Piece.{Piece}
use Rattle.c_acts.specs.Formats.{piece_of, pieces_in}

-- ---- pieces

-- the pieces that were found, with those that follow
abbrev pub with_pieces : List Piece → Option (List language.Piece) → Option (List language.Piece)
with_pieces found o = option_map (λ (ps : List language.Piece). map piece_of found ++ ps) o

map-push : (found : List Piece) (p : Piece) → map piece_of (found ++ p ∷ []) ≡ map piece_of found ++ piece_of p ∷ []
map-push [] p = refl
map-push (q ∷ found) p = ap (λ (ps : List language.Piece). piece_of q ∷ ps) (map-push found p)

pieces_more : (found : List Piece) (p : Piece) (o : Option (List language.Piece)) → with_pieces found (option_map (λ (ps : List language.Piece). piece_of p ∷ ps) o) ≡ with_pieces (found ++ p ∷ []) o
pieces_more found p None = refl
pieces_more found p (Some ps) =
    ap Some (sym (append_assoc (map piece_of found) (piece_of p ∷ []) ps) ∙ ap (λ (qs : List language.Piece). qs ++ ps) (sym (map-push found p)))

module _ (format : Bytes) (i b : ℕ) (split : drop i format ≡ b ∷ drop (i + 1) format) (found : List Piece) (at_ : language.Behind) (all : Option (List language.Piece)) (before : all ≡ with_pieces found (language.pieces_from at_ (drop i format))) where
  at_byte : all ≡ with_pieces found (language.pieces_from at_ (b ∷ drop (i + 1) format))
  at_byte = before ∙ ap (λ (bs : Bytes). with_pieces found (language.pieces_from at_ bs)) split

  pub byte_passes : (next : language.Behind) → language.pieces_from next (drop (i + 1) format) ≡ language.pieces_from at_ (b ∷ drop (i + 1) format) → all ≡ with_pieces found (language.pieces_from next (drop (i + 1) format))
  byte_passes next e = at_byte ∙ ap (with_pieces found) (sym e)

  pub byte_gives : (p : Piece) → option_map (λ (ps : List language.Piece). piece_of p ∷ ps) (language.pieces_from language.Nothing (drop (i + 1) format)) ≡ language.pieces_from at_ (b ∷ drop (i + 1) format)
      → all ≡ with_pieces (found ++ p ∷ []) (language.pieces_from language.Nothing (drop (i + 1) format))
  byte_gives p e = at_byte ∙ ap (with_pieces found) (sym e) ∙ pieces_more found p (language.pieces_from language.Nothing (drop (i + 1) format))

  pub byte_fails : None ≡ language.pieces_from at_ (b ∷ drop (i + 1) format) → None ≡ all
  byte_fails e = ap (with_pieces found) e ∙ sym at_byte

pub pieces_known : (o : Option (Vec Piece)) (found : Vec Piece) (bytes format : Bytes) → option_map pieces_in o ≡ language.format_pieces bytes → bytes ≡ literal_bytes format → o ≡ Some found → pieces_in found ≡ spec.pieces_of format
pieces_known o found bytes format is spelled some =
    ap (λ (q : Option (List language.Piece)). unwrap_or q []) (sym (ap (option_map pieces_in) some) ∙ is ∙ ap language.format_pieces spelled)

pub pieces_unknown : (o : Option (Vec Piece)) (bytes format : Bytes) → option_map pieces_in o ≡ language.format_pieces bytes → bytes ≡ literal_bytes format → o ≡ None → [] ≡ spec.pieces_of format
pieces_unknown o bytes format is spelled none =
    ap (λ (q : Option (List language.Piece)). unwrap_or q []) (sym (ap (option_map pieces_in) none) ∙ is ∙ ap language.format_pieces spelled)

-- ---- conversions

abbrev pub to_convert : List Piece → List Value → List ℤ
to_convert ps vs = spec.converted (map piece_of ps) (map tested vs)

abbrev pub to_write : List Piece → List Value → Bytes
to_write ps vs = spec.written (map piece_of ps) (to_convert ps vs)

-- The conversions of a format, byte by byte.
use Rattle.std.proofs.Common.{◌≡◌, ℕ, ◌+◌, ◌<◌, List, [], ◌∷◌, ◌++◌, drop, length, get_or, Bool, true, false, Option, Some, None, refl, sym, ap, ◌∙◌, append_assoc, ne_eqb, eq-eqb}
use Rattle.std.specs.Prelude.{option_map, option_and_then}
use Rattle.std.proofs.lemmas.List.{drop_more}
use Rattle.c_language.specs.Words.{Bytes}
use Rattle.c_language.specs.Formats.{Conversion, Piece, Converts, Behind, Nothing, Percent, Long, conversion_of, plain_piece, converted_piece, pieces_from, conversions}
use Rattle.c_types_checks.specs.Conversions.{converted, converted_from}

plain : (b : ℕ) (o : Option (List Piece)) → option_map conversions o ≡ option_map conversions (plain_piece b o)
plain b None = refl
plain b (Some ps) = refl

converts : (c : Conversion) (o : Option (List Piece)) → option_map (λ (cs : List Conversion). c ∷ cs) (option_map conversions o) ≡ option_map conversions (option_map (λ (ps : List Piece). Converts c ∷ ps) o)
converts c None = refl
converts c (Some ps) = refl

-- a letter that makes a conversion
letter : (is_long : Bool) (b : ℕ) (rest : Bytes) (c : Conversion) → Some c ≡ conversion_of is_long b
    → option_map (λ (cs : List Conversion). c ∷ cs) (converted_from Nothing rest) ≡ option_map conversions (converted_piece is_long b (pieces_from Nothing rest))
letter is_long b rest c is =
    converts c (pieces_from Nothing rest)
    ∙ ap (λ (o : Option Conversion). option_map conversions (option_and_then (λ (d : Conversion). option_map (λ (ps : List Piece). Converts d ∷ ps) (pieces_from Nothing rest)) o)) is

pub long_converts : (b : ℕ) (rest : Bytes) (c : Conversion) → Some c ≡ conversion_of true b
    → option_map (λ (cs : List Conversion). c ∷ cs) (converted_from Nothing rest) ≡ converted_from Long (b ∷ rest)
long_converts b rest c is = letter true b rest c is

pub percent_converts : (b : ℕ) (rest : Bytes) (c : Conversion) → (b ≡ 37 → ⊥) → (b ≡ 108 → ⊥) → Some c ≡ conversion_of false b
    → option_map (λ (cs : List Conversion). c ∷ cs) (converted_from Nothing rest) ≡ converted_from Percent (b ∷ rest)
percent_converts b rest c percent long is = rw (ne_eqb b 37 percent) (rw (ne_eqb b 108 long) (letter false b rest c is))

pub percent_written : (b : ℕ) (rest : Bytes) → b ≡ 37 → converted_from Nothing rest ≡ converted_from Percent (b ∷ rest)
percent_written b rest is = rw (eq-eqb b 37 is) (plain 37 (pieces_from Nothing rest))

pub byte_written : (b : ℕ) (rest : Bytes) → (b ≡ 37 → ⊥) → converted_from Nothing rest ≡ converted_from Nothing (b ∷ rest)
byte_written b rest isnt = rw (ne_eqb b 37 isnt) (plain b (pieces_from Nothing rest))

-- what stands before the conversions of the rest
abbrev pub behind_found : List Conversion → Option (List Conversion) → Option (List Conversion)
behind_found done o = option_map (λ (cs : List Conversion). done ++ cs) o

pub one_found : (done : List Conversion) (c : Conversion) (o : Option (List Conversion))
    → behind_found done (option_map (λ (cs : List Conversion). c ∷ cs) o) ≡ behind_found (done ++ c ∷ []) o
one_found done c None = refl
one_found done c (Some cs) = ap (λ (x : List Conversion). Some x) (sym (append_assoc done (c ∷ []) cs))

module _ (format : Bytes) (i : ℕ) (done : List Conversion) (behind : Behind) (within : i < length format)
    (so_far : converted format ≡ behind_found done (converted_from behind (drop i format))) where
  next : drop i format ≡ get_or format i 0 ∷ drop (i + 1) format
  next = drop_more format i 0 within

  went : (o : Option (List Conversion)) → o ≡ converted_from behind (get_or format i 0 ∷ drop (i + 1) format) → converted format ≡ behind_found done o
  went o is = so_far ∙ ap (λ (bs : Bytes). behind_found done (converted_from behind bs)) next ∙ ap (behind_found done) (sym is)

  pub step_fails : ((rest : Bytes) → None ≡ converted_from behind (get_or format i 0 ∷ rest)) → None ≡ converted format
  step_fails gives = sym (went None (gives (drop (i + 1) format)))

  pub step_passes : (later : Behind) → ((rest : Bytes) → converted_from later rest ≡ converted_from behind (get_or format i 0 ∷ rest))
      → converted format ≡ behind_found done (converted_from later (drop (i + 1) format))
  step_passes later gives = went (converted_from later (drop (i + 1) format)) (gives (drop (i + 1) format))

  pub step_converts : (c : Conversion)
      → ((rest : Bytes) → option_map (λ (cs : List Conversion). c ∷ cs) (converted_from Nothing rest) ≡ converted_from behind (get_or format i 0 ∷ rest))
      → converted format ≡ behind_found (done ++ c ∷ []) (converted_from Nothing (drop (i + 1) format))
  step_converts c gives =
      went (option_map (λ (cs : List Conversion). c ∷ cs) (converted_from Nothing (drop (i + 1) format))) (gives (drop (i + 1) format))
      ∙ one_found done c (converted_from Nothing (drop (i + 1) format))

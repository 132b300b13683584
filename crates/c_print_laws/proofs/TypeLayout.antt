-- The words of a type of a program are those of the text's type.
use Rattle.std.proofs.Common.{◌≡◌, ℕ, ◌∷◌, ◌++◌, Option, Some, codes, refl, sym, ap, ap₂, subst, ◌∙◌}
use Rattle.c_tree.specs.declared.types.CType.{CType}
use Rattle.c_tree.specs.declared.types.CType.TheVariants as t
use Rattle.c_tree.specs.declared.program.Program.{Program}
use Rattle.c_tree.specs.declared.raw.expr.RawLength.{RawLength}
use Rattle.c_tree.specs.declared.raw.expr.RawLength.TheVariants.{Written, Listed}
use Rattle.c_tree.specs.declared.raw.expr.RawType.{RawType, map-RawType, fold-roll-RawType}
use Rattle.c_tree.specs.declared.raw.expr.RawType.TheOpen.{RawType-F}
use Rattle.c_tree.specs.declared.raw.program.RawProgram.{RawProgram}
use Rattle.c_tree.proofs.RawTrees.{TypeParts, type_layer, of_every_type}
use Rattle.c_language.specs.Words.{Bytes, base_words, stars, lengths, declared, type_words, spaced_stars}
use Rattle.c_language.specs.ConstantEvaluation.{constant, value_of_constant}
use Rattle.c_language.specs.declared.constant.Constant.{Constant}
use Rattle.c_language.specs.DeclaredTypes.{struct_id, positive, length_in}
use Rattle.c_language.specs.ProgramOf.{length_words, ctype_step, ctype_with}
use Rattle.c_language.proofs.WordLemmas.{base_words-Integer, base_words-PointerTo, base_words-Array, base_words-Struct, stars-Integer, stars-PointerTo, stars-Array, stars-Struct, lengths-Integer, lengths-PointerTo, lengths-Array, lengths-Struct}
use Rattle.c_text_layout.specs.RawLayout.{raw_base_step, raw_base, raw_stars_step, raw_stars, raw_length_words, raw_lengths_step, raw_lengths, raw_declared, raw_type_words}
use Rattle.c_print_laws.proofs.SpacedWords.{constant_spaced}
use Rattle.c_print_laws.proofs.Named.{IsNamed}
use Rattle.c_language.proofs.Options.{some_same, map_there, then_there, both_there}
use Rattle.c_language.specs.Options.{IsThere}

-- a type of the program has these words
pub record HasTypeWords (p : Program) (c : CType) (front middle back : Bytes) : Type 0 where
  pub base : base_words p c ≡ front
  pub star : stars c ≡ middle
  pub long : lengths c ≡ back

-- a length has the words that the layout of the text has for it
length_layout : (items : ℕ) (n : RawLength) (k : ℕ) → length_in items n ≡ Some k → length_words items n ≡ raw_length_words items n
length_layout items (Written a) k h =
    let g = then_there positive (value_of_constant a) k h in
    let c = then_there (λ (x : Constant). x.value) (constant a) g.value g.there in
    sym (constant_spaced a (subst IsThere (sym c.there) tt))
length_layout items Listed k h = refl

module _ (raw : RawProgram) (p : Program) (named : IsNamed raw p) (items : ℕ) where
  abbrev IsLaidOut : RawType → Type 0
  IsLaidOut a = (c : CType) → ctype_with raw items a ≡ Some c → HasTypeWords p c (raw_base a) (raw_stars a) (raw_lengths items a)

  same_type : {c d : CType} {front middle back : Bytes} → c ≡ d → HasTypeWords p c front middle back → HasTypeWords p d front middle back
  same_type {front} {middle} {back} is h = subst (λ (x : CType). HasTypeWords p x front middle back) is h

  abbrev Layered : RawType-F RawType → Type 0
  Layered y = (c : CType) → ctype_step raw items (map-RawType RawType (Option CType) (ctype_with raw items) y) ≡ Some c
      → HasTypeWords p c (raw_base_step (map-RawType RawType Bytes raw_base y)) (raw_stars_step (map-RawType RawType Bytes raw_stars y))
      (raw_lengths_step items (map-RawType RawType Bytes (raw_lengths items) y))

  layered : (y : TypeParts IsLaidOut) → Layered (type_layer IsLaidOut y)
  layered (RawType-F.Integer i) c h = same_type (some_same h) (record { base = base_words-Integer p i; star = stars-Integer i; long = lengths-Integer i })
  layered (RawType-F.PointerTo a) c h =
      let g = map_there t.PointerTo (ctype_with raw items a.0) c h in
      let k = a.1 g.value g.there in
      same_type g.same (record { base = base_words-PointerTo p g.value ∙ k.base; star = stars-PointerTo g.value ∙ ap (λ (w : Bytes). 42 ∷ w) k.star; long = lengths-PointerTo g.value })
  layered (RawType-F.Array a n) c h =
      let g = both_there (λ (b : CType) (k : ℕ). t.Array b k (length_words items n)) (ctype_with raw items a.0) (length_in items n) c h in
      let k = a.1 g.left g.left_there in
      same_type g.same (record {
        base = base_words-Array p g.left g.right (length_words items n) ∙ k.base;
        star = stars-Array g.left g.right (length_words items n) ∙ k.star;
        long =
            lengths-Array g.left g.right (length_words items n)
            ∙ ap₂ (λ (v w : Bytes). codes "[" ++ (v ++ (codes "]" ++ w))) (length_layout items n g.right g.right_there) k.long;
      })
  layered (RawType-F.Struct tag) c h =
      let g = map_there t.Struct (struct_id raw tag) c h in
      same_type g.same (record {
        base = base_words-Struct p g.value ∙ ap (λ (w : Bytes). codes "struct " ++ w) (named.structs tag g.value g.there);
        star = stars-Struct g.value;
        long = lengths-Struct g.value;
      })

  -- the words of a type are those of the text's type
  pub type_layout : (a : RawType) (c : CType) → ctype_with raw items a ≡ Some c → HasTypeWords p c (raw_base a) (raw_stars a) (raw_lengths items a)
  type_layout = of_every_type IsLaidOut (λ y c h.
      let l = type_layer IsLaidOut y in
      let k = layered y c (sym (fold-roll-RawType (Option CType) (ctype_step raw items) l) ∙ h) in
      record {
        base = k.base ∙ sym (fold-roll-RawType Bytes raw_base_step l);
        star = k.star ∙ sym (fold-roll-RawType Bytes raw_stars_step l);
        long = k.long ∙ sym (fold-roll-RawType Bytes (raw_lengths_step items) l);
      })

  -- a name with its type is declared as in the text
  pub declared_layout : (a : RawType) (c : CType) (name : Bytes) → ctype_with raw items a ≡ Some c → declared p c name ≡ raw_declared items a name
  declared_layout a c name h =
      let k = type_layout a c h in
      ap₂ (λ (b w : Bytes). b ++ (codes " " ++ w)) k.base (ap₂ (λ (x y : Bytes). x ++ (name ++ y)) k.star k.long)

  -- a type without a name
  pub nameless_layout : (a : RawType) (c : CType) → ctype_with raw items a ≡ Some c → type_words p c ≡ raw_type_words a
  nameless_layout a c h =
      let k = type_layout a c h in
      ap₂ (λ (b w : Bytes). b ++ spaced_stars w) k.base k.star

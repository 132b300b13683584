-- Types that agree are written in the same words.
use Rattle.std.proofs.Common.{◌≡◌, ◌≢◌, ℕ, List, [], ◌∷◌, ◌++◌, true, Option, Some, None, codes, refl, sym, ap, ap₂, subst, ◌∙◌, arith, eqb-true}
use Rattle.std.specs.Prelude.{option_map, Contains}
use Rattle.std.proofs.lemmas.Bool.{and_parts}
use Rattle.c_arith.specs.declared.int_type.IntType.{IntType}
use Rattle.c_arith.specs.declared.int_type.IntType.TheVariants.{Char, UChar, Short, UShort, Int, UInt, Long, ULong}
use Rattle.c_tree.specs.declared.types.CType.{CType}
use Rattle.c_tree.specs.declared.types.CType.TheVariants as t
use Rattle.c_tree.specs.declared.program.Program.{Program}
use Rattle.c_tree.specs.declared.raw.expr.RawType.{RawType, map-RawType, fold-roll-RawType}
use Rattle.c_tree.specs.declared.raw.expr.RawType.TheOpen.{RawType-F}
use Rattle.c_tree.specs.declared.raw.expr.RawType.TheVariants as type
use Rattle.c_tree.specs.declared.raw.program.RawProgram.{RawProgram}
use Rattle.c_tree.proofs.RawTrees.{TypeParts, type_layer, of_every_type}
use Rattle.c_language.specs.Lists.{same_all}
use Rattle.c_language.specs.Words.{Bytes, int_words, name_of_struct, base_words, stars, declared, type_words, spaced_stars}
use Rattle.c_language.specs.DeclaredTypes.{struct_id, length_in, of_base, with_layer, integer, pointer_to, type_step, written_type}
use Rattle.c_language.specs.ExprTypes.{same_int, same_base, same_layer, same_type}
use Rattle.c_language.specs.NameRules.{agree}
use Rattle.c_language.specs.Uses.{tags_in}
use Rattle.c_language.specs.ProgramOf.{ctype_step, ctype}
use Rattle.c_language.specs.declared.expr_type.Layer.{Layer}
use Rattle.c_language.specs.declared.expr_type.Layer.TheVariants.{Pointer, Array}
use Rattle.c_language.specs.declared.expr_type.Base.{Base}
use Rattle.c_language.specs.declared.expr_type.Base.TheVariants as base
use Rattle.c_language.specs.declared.expr_type.ExprType.{ExprType}
use Rattle.c_text_layout.specs.RawLayout.{raw_base_step, raw_base, raw_stars_step, raw_stars, raw_lengths, raw_declared, raw_type_words}
use Rattle.c_text_layout.proofs.RawTypeLemmas.{raw_lengths-Integer, raw_lengths-PointerTo, raw_lengths-Struct}
use Rattle.c_language.proofs.Tests.{false_true}
use Rattle.c_language.proofs.UseLemmas.{tags-PointerTo, tags-Struct}
use Rattle.c_print_laws.proofs.Named.{IsNamed}
use Rattle.c_print_laws.proofs.TypeLayout.{type_layout, declared_layout, nameless_layout}
use Rattle.c_language.proofs.PlainTypes.{IsPlain}
use Rattle.c_language.proofs.Options.{some_same, map_there, then_there}

same_int_words : (s t : IntType) → same_int s t ≡ true → int_words s ≡ int_words t
same_int_words Char Char h = refl
same_int_words Char UChar h = false_true h
same_int_words Char Short h = false_true h
same_int_words Char UShort h = false_true h
same_int_words Char Int h = false_true h
same_int_words Char UInt h = false_true h
same_int_words Char Long h = false_true h
same_int_words Char ULong h = false_true h
same_int_words UChar Char h = false_true h
same_int_words UChar UChar h = refl
same_int_words UChar Short h = false_true h
same_int_words UChar UShort h = false_true h
same_int_words UChar Int h = false_true h
same_int_words UChar UInt h = false_true h
same_int_words UChar Long h = false_true h
same_int_words UChar ULong h = false_true h
same_int_words Short Char h = false_true h
same_int_words Short UChar h = false_true h
same_int_words Short Short h = refl
same_int_words Short UShort h = false_true h
same_int_words Short Int h = false_true h
same_int_words Short UInt h = false_true h
same_int_words Short Long h = false_true h
same_int_words Short ULong h = false_true h
same_int_words UShort Char h = false_true h
same_int_words UShort UChar h = false_true h
same_int_words UShort Short h = false_true h
same_int_words UShort UShort h = refl
same_int_words UShort Int h = false_true h
same_int_words UShort UInt h = false_true h
same_int_words UShort Long h = false_true h
same_int_words UShort ULong h = false_true h
same_int_words Int Char h = false_true h
same_int_words Int UChar h = false_true h
same_int_words Int Short h = false_true h
same_int_words Int UShort h = false_true h
same_int_words Int Int h = refl
same_int_words Int UInt h = false_true h
same_int_words Int Long h = false_true h
same_int_words Int ULong h = false_true h
same_int_words UInt Char h = false_true h
same_int_words UInt UChar h = false_true h
same_int_words UInt Short h = false_true h
same_int_words UInt UShort h = false_true h
same_int_words UInt Int h = false_true h
same_int_words UInt UInt h = refl
same_int_words UInt Long h = false_true h
same_int_words UInt ULong h = false_true h
same_int_words Long Char h = false_true h
same_int_words Long UChar h = false_true h
same_int_words Long Short h = false_true h
same_int_words Long UShort h = false_true h
same_int_words Long Int h = false_true h
same_int_words Long UInt h = false_true h
same_int_words Long Long h = refl
same_int_words Long ULong h = false_true h
same_int_words ULong Char h = false_true h
same_int_words ULong UChar h = false_true h
same_int_words ULong Short h = false_true h
same_int_words ULong UShort h = false_true h
same_int_words ULong Int h = false_true h
same_int_words ULong UInt h = false_true h
same_int_words ULong Long h = false_true h
same_int_words ULong ULong h = refl

-- the stars of a type's layers
abbrev stars_of : List Layer → Bytes
stars_of [] = []
stars_of (Pointer ∷ ls) = 42 ∷ stars_of ls
stars_of (Array n ∷ ls) = stars_of ls

abbrev base_of : Program → Base → Bytes
base_of p (base.Integer i) = int_words i
base_of p (base.Struct k) = codes "struct " ++ name_of_struct p k
base_of p base.Void = []

same_stars : (ls ms : List Layer) → same_all same_layer ls ms ≡ true → stars_of ls ≡ stars_of ms
same_stars [] [] h = refl
same_stars [] (m ∷ ms) h = false_true h
same_stars (l ∷ ls) [] h = false_true h
same_stars (Pointer ∷ ls) (Pointer ∷ ms) h = ap (λ (w : Bytes). 42 ∷ w) (same_stars ls ms h)
same_stars (Pointer ∷ ls) (Array n ∷ ms) h = false_true h
same_stars (Array n ∷ ls) (Pointer ∷ ms) h = false_true h
same_stars (Array m ∷ ls) (Array n ∷ ms) h = same_stars ls ms (and_parts _ (same_all same_layer ls ms) h).1

same_base_words : (p : Program) (a b : Base) → same_base a b ≡ true → base_of p a ≡ base_of p b
same_base_words p (base.Integer i) (base.Integer j) h = same_int_words i j h
same_base_words p (base.Integer i) (base.Struct k) h = false_true h
same_base_words p (base.Integer i) base.Void h = false_true h
same_base_words p (base.Struct k) (base.Integer j) h = false_true h
same_base_words p (base.Struct k) (base.Struct m) h = ap (λ (n : ℕ). codes "struct " ++ name_of_struct p n) (eqb-true k m h)
same_base_words p (base.Struct k) base.Void h = false_true h
same_base_words p base.Void (base.Integer j) h = false_true h
same_base_words p base.Void (base.Struct k) h = false_true h
same_base_words p base.Void base.Void h = refl

-- ---- equations

written-Integer : (raw : RawProgram) (i : IntType) → written_type raw (type.Integer i) ≡ Some (integer i)
written-Integer raw i = ap (written_type raw) (sym (type.rolls-Integer i)) ∙ fold-roll-RawType (Option ExprType) (type_step raw 0) (RawType-F.Integer i)

written-PointerTo : (raw : RawProgram) (a : RawType) → written_type raw (type.PointerTo a) ≡ option_map pointer_to (written_type raw a)
written-PointerTo raw a = ap (written_type raw) (sym (type.rolls-PointerTo a)) ∙ fold-roll-RawType (Option ExprType) (type_step raw 0) (RawType-F.PointerTo a)

written-Struct : (raw : RawProgram) (tag : Bytes) → written_type raw (type.Struct tag) ≡ option_map (λ (k : ℕ). of_base (base.Struct k)) (struct_id raw tag)
written-Struct raw tag = ap (written_type raw) (sym (type.rolls-Struct tag)) ∙ fold-roll-RawType (Option ExprType) (type_step raw 0) (RawType-F.Struct tag)

ctype-PointerTo : (raw : RawProgram) (a : RawType) → ctype raw (type.PointerTo a) ≡ option_map t.PointerTo (ctype raw a)
ctype-PointerTo raw a = ap (ctype raw) (sym (type.rolls-PointerTo a)) ∙ fold-roll-RawType (Option CType) (ctype_step raw 0) (RawType-F.PointerTo a)

ctype-Struct : (raw : RawProgram) (tag : Bytes) → ctype raw (type.Struct tag) ≡ option_map t.Struct (struct_id raw tag)
ctype-Struct raw tag = ap (ctype raw) (sym (type.rolls-Struct tag)) ∙ fold-roll-RawType (Option CType) (ctype_step raw 0) (RawType-F.Struct tag)

-- a type with no lengths has none
pub plain_lengths : {a : RawType} → IsPlain a → raw_lengths 0 a ≡ []
plain_lengths (IsPlain.integer {t = i}) = raw_lengths-Integer 0 i
plain_lengths (IsPlain.structure {tag = w}) = raw_lengths-Struct 0 w
plain_lengths (IsPlain.pointer {a} h) = raw_lengths-PointerTo 0 a

abbrev pub IsObject : Base → Type 0
IsObject (base.Integer i) = Unit {0}
IsObject (base.Struct k) = Unit {0}
IsObject base.Void = ⊥

module _ (raw : RawProgram) (p : Program) (named : IsNamed raw p) where
  -- ---- the words of a type as it is written

  pub record HasWords (a : RawType) (s : ExprType) : Type 0 where
    pub front : raw_base a ≡ base_of p s.base
    pub star : raw_stars a ≡ stars_of s.layers

  abbrev IsWritten : RawType → Type 0
  IsWritten a = (s : ExprType) → written_type raw a ≡ Some s → HasWords a s

  abbrev LayerWritten : RawType-F RawType → Type 0
  LayerWritten y = (s : ExprType) → type_step raw 0 (map-RawType RawType (Option ExprType) (written_type raw) y) ≡ Some s
      → (raw_base_step (map-RawType RawType Bytes raw_base y) ≡ base_of p s.base) × (raw_stars_step (map-RawType RawType Bytes raw_stars y) ≡ stars_of s.layers)

  of_layer : (y : TypeParts IsWritten) → LayerWritten (type_layer IsWritten y)
  of_layer (RawType-F.Integer i) s h = (ap (λ (x : ExprType). base_of p x.base) (some_same h), ap (λ (x : ExprType). stars_of x.layers) (some_same h))
  of_layer (RawType-F.PointerTo a) s h =
      let g = map_there pointer_to (written_type raw a.0) s h in
      let k = a.1 g.value g.there in
      (k.front ∙ ap (λ (x : ExprType). base_of p x.base) g.same, ap (λ (w : Bytes). 42 ∷ w) k.star ∙ ap (λ (x : ExprType). stars_of x.layers) g.same)
  of_layer (RawType-F.Array a n) s h =
      let g = then_there (λ (x : ExprType). option_map (λ (k : ℕ). with_layer (Array k) x) (length_in 0 n)) (written_type raw a.0) s h in
      let m = map_there (λ (k : ℕ). with_layer (Array k) g.value) (length_in 0 n) s g.same in
      let k = a.1 g.value g.there in
      (k.front ∙ ap (λ (x : ExprType). base_of p x.base) m.same, k.star ∙ ap (λ (x : ExprType). stars_of x.layers) m.same)
  of_layer (RawType-F.Struct tag) s h =
      let g = map_there (λ (k : ℕ). of_base (base.Struct k)) (struct_id raw tag) s h in
      (ap (λ (w : Bytes). codes "struct " ++ w) (sym (named.structs tag g.value g.there)) ∙ ap (λ (x : ExprType). base_of p x.base) g.same, ap (λ (x : ExprType). stars_of x.layers) g.same)

  has_words : (a : RawType) → IsWritten a
  has_words = of_every_type IsWritten (λ y s h.
      let l = type_layer IsWritten y in
      let k = of_layer y s (sym (fold-roll-RawType (Option ExprType) (type_step raw 0) l) ∙ h) in
      record { front = fold-roll-RawType Bytes raw_base_step l ∙ k.0; star = fold-roll-RawType Bytes raw_stars_step l ∙ k.1 })

  -- ---- types with no lengths

  pub record IsTyped (a : RawType) : Type 0 where
    pub type : ExprType
    pub written : written_type raw a ≡ Some type
    pub object : IsObject type.base

  pointer_typed : (a : RawType) → IsTyped a → IsTyped (type.PointerTo a)
  pointer_typed a h = record { type = pointer_to h.type; written = written-PointerTo raw a ∙ ap (option_map pointer_to) h.written; object = h.object }

  struct_typed : (tag : Bytes) (k : ℕ) → struct_id raw tag ≡ Some k → IsTyped (type.Struct tag)
  struct_typed tag k h = record { type = of_base (base.Struct k); written = written-Struct raw tag ∙ ap (option_map (λ (k : ℕ). of_base (base.Struct k))) h; object = tt }

  -- one that is a type of the program is written
  pub typed : {a : RawType} → IsPlain a → (c : CType) → ctype raw a ≡ Some c → IsTyped a
  typed (IsPlain.integer {t = i}) c h = record { type = integer i; written = written-Integer raw i; object = tt }
  typed (IsPlain.structure {tag = w}) c h = let g = map_there t.Struct (struct_id raw w) c (sym (ctype-Struct raw w) ∙ h) in struct_typed w g.value g.there
  typed (IsPlain.pointer {a} k) c h = let g = map_there t.PointerTo (ctype raw a) c (sym (ctype-PointerTo raw a) ∙ h) in pointer_typed a (typed k g.value g.there)

  some_id : (tag : Bytes) → struct_id raw tag ≢ None → (k : ℕ) × (struct_id raw tag ≡ Some k)
  some_id tag h = by_id (struct_id raw tag) refl
    where
      by_id : (o : Option ℕ) → struct_id raw tag ≡ o → (k : ℕ) × (struct_id raw tag ≡ Some k)
      by_id None is = absurd (h is)
      by_id (Some k) is = (k, is)

  -- one whose tag is defined is written
  pub tagged : {a : RawType} → IsPlain a → ((tag : Bytes) → Contains (tags_in a) tag → struct_id raw tag ≢ None) → IsTyped a
  tagged (IsPlain.integer {t = i}) h = record { type = integer i; written = written-Integer raw i; object = tt }
  tagged (IsPlain.structure {tag = w}) h =
      let x = some_id w (h w (subst (λ (ws : List Bytes). Contains ws w) (sym (tags-Struct w)) (0, omega arith, refl))) in
      struct_typed w x.0 x.1
  tagged (IsPlain.pointer {a} k) h = pointer_typed a (tagged k (λ w c. h w (subst (λ (ws : List Bytes). Contains ws w) (sym (tags-PointerTo a)) c)))

  -- ---- agreement

  pub record SameWords (a b : RawType) : Type 0 where
    pub front : raw_base b ≡ raw_base a
    pub star : raw_stars b ≡ raw_stars a

  pub agreed : (a b : RawType) → IsTyped a → IsTyped b → agree (written_type raw a) (written_type raw b) ≡ true → SameWords a b
  agreed a b ha hb h =
      let k : same_type ha.type hb.type ≡ true = ap₂ agree (sym ha.written) (sym hb.written) ∙ h in
      let each = and_parts (same_all same_layer ha.type.layers hb.type.layers) (same_base ha.type.base hb.type.base) k in
      let x = has_words a ha.type ha.written in
      let y = has_words b hb.type hb.written in
      record {
        front = y.front ∙ sym (same_base_words p ha.type.base hb.type.base each.1) ∙ sym x.front;
        star = y.star ∙ sym (same_stars ha.type.layers hb.type.layers each.0) ∙ sym x.star;
      }

  pub agreed_declared : (a b : RawType) (c : CType) (name : Bytes) → IsPlain a → IsPlain b → ctype raw b ≡ Some c → SameWords a b → declared p c name ≡ raw_declared 0 a name
  agreed_declared a b c name ha hb is h =
      declared_layout raw p named 0 b c name is
      ∙ ap₂ (λ (x y : Bytes). x ++ (codes " " ++ (y ++ (name ++ raw_lengths 0 b)))) h.front h.star
      ∙ ap (λ (w : Bytes). raw_base a ++ (codes " " ++ (raw_stars a ++ (name ++ w)))) (plain_lengths hb ∙ sym (plain_lengths ha))

  pub agreed_nameless : (a b : RawType) (c : CType) → ctype raw b ≡ Some c → SameWords a b → type_words p c ≡ raw_type_words a
  agreed_nameless a b c is h = nameless_layout raw p named 0 b c is ∙ ap₂ (λ (x y : Bytes). x ++ spaced_stars y) h.front h.star

  pub agreed_result : (a b : RawType) (c : CType) → ctype raw b ≡ Some c → SameWords a b → base_words p c ++ (codes " " ++ stars c) ≡ raw_base a ++ (codes " " ++ raw_stars a)
  agreed_result a b c is h =
      let k = type_layout raw p named 0 b c is in
      ap₂ (λ (x y : Bytes). x ++ (codes " " ++ y)) (k.base ∙ h.front) (k.star ∙ h.star)

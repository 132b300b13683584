-- What the layout makes of each form of type of a text, as equations.
use Rattle.std.proofs.Common.{◌≡◌, ℕ, [], ◌∷◌, ◌++◌, codes, sym, ap, ◌∙◌}
use Rattle.c_arith.specs.declared.int_type.IntType.{IntType}
use Rattle.c_tree.specs.declared.raw.expr.RawLength.{RawLength}
use Rattle.c_tree.specs.declared.raw.expr.RawType.{RawType, fold-roll-RawType}
use Rattle.c_tree.specs.declared.raw.expr.RawType.TheOpen.{RawType-F}
use Rattle.c_tree.specs.declared.raw.expr.RawType.TheVariants as type
use Rattle.c_language.specs.Words.{Bytes, int_words}
use Rattle.c_text_layout.specs.RawLayout.{raw_base_step, raw_base, raw_stars_step, raw_stars, raw_length_words, raw_lengths_step, raw_lengths}
use Rattle.c_text_layout.specs.Settled.{settled_length, settled_type_step, settled_type}

pub raw_base-Integer : (t : IntType) → raw_base (type.Integer t) ≡ int_words t
raw_base-Integer t = ap raw_base (sym (type.rolls-Integer t)) ∙ fold-roll-RawType Bytes raw_base_step (RawType-F.Integer t)

pub raw_base-PointerTo : (a : RawType) → raw_base (type.PointerTo a) ≡ raw_base a
raw_base-PointerTo a = ap raw_base (sym (type.rolls-PointerTo a)) ∙ fold-roll-RawType Bytes raw_base_step (RawType-F.PointerTo a)

pub raw_base-Array : (a : RawType) (n : RawLength) → raw_base (type.Array a n) ≡ raw_base a
raw_base-Array a n = ap raw_base (sym (type.rolls-Array a n)) ∙ fold-roll-RawType Bytes raw_base_step (RawType-F.Array a n)

pub raw_base-Struct : (tag : Bytes) → raw_base (type.Struct tag) ≡ codes "struct " ++ tag
raw_base-Struct tag = ap raw_base (sym (type.rolls-Struct tag)) ∙ fold-roll-RawType Bytes raw_base_step (RawType-F.Struct tag)

pub raw_stars-Integer : (t : IntType) → raw_stars (type.Integer t) ≡ []
raw_stars-Integer t = ap raw_stars (sym (type.rolls-Integer t)) ∙ fold-roll-RawType Bytes raw_stars_step (RawType-F.Integer t)

pub raw_stars-PointerTo : (a : RawType) → raw_stars (type.PointerTo a) ≡ 42 ∷ raw_stars a
raw_stars-PointerTo a = ap raw_stars (sym (type.rolls-PointerTo a)) ∙ fold-roll-RawType Bytes raw_stars_step (RawType-F.PointerTo a)

pub raw_stars-Array : (a : RawType) (n : RawLength) → raw_stars (type.Array a n) ≡ raw_stars a
raw_stars-Array a n = ap raw_stars (sym (type.rolls-Array a n)) ∙ fold-roll-RawType Bytes raw_stars_step (RawType-F.Array a n)

pub raw_stars-Struct : (tag : Bytes) → raw_stars (type.Struct tag) ≡ []
raw_stars-Struct tag = ap raw_stars (sym (type.rolls-Struct tag)) ∙ fold-roll-RawType Bytes raw_stars_step (RawType-F.Struct tag)

pub raw_lengths-Integer : (items : ℕ) (t : IntType) → raw_lengths items (type.Integer t) ≡ []
raw_lengths-Integer items t = ap (raw_lengths items) (sym (type.rolls-Integer t)) ∙ fold-roll-RawType Bytes (raw_lengths_step items) (RawType-F.Integer t)

pub raw_lengths-PointerTo : (items : ℕ) (a : RawType) → raw_lengths items (type.PointerTo a) ≡ []
raw_lengths-PointerTo items a = ap (raw_lengths items) (sym (type.rolls-PointerTo a)) ∙ fold-roll-RawType Bytes (raw_lengths_step items) (RawType-F.PointerTo a)

pub raw_lengths-Array : (items : ℕ) (a : RawType) (n : RawLength) → raw_lengths items (type.Array a n) ≡ 91 ∷ (raw_length_words items n ++ (93 ∷ raw_lengths items a))
raw_lengths-Array items a n = ap (raw_lengths items) (sym (type.rolls-Array a n)) ∙ fold-roll-RawType Bytes (raw_lengths_step items) (RawType-F.Array a n)

pub raw_lengths-Struct : (items : ℕ) (tag : Bytes) → raw_lengths items (type.Struct tag) ≡ []
raw_lengths-Struct items tag = ap (raw_lengths items) (sym (type.rolls-Struct tag)) ∙ fold-roll-RawType Bytes (raw_lengths_step items) (RawType-F.Struct tag)

pub settled_type-Integer : (items : ℕ) (t : IntType) → settled_type items (type.Integer t) ≡ type.Integer t
settled_type-Integer items t = ap (settled_type items) (sym (type.rolls-Integer t)) ∙ fold-roll-RawType RawType (settled_type_step items) (RawType-F.Integer t)

pub settled_type-PointerTo : (items : ℕ) (a : RawType) → settled_type items (type.PointerTo a) ≡ type.PointerTo (settled_type items a)
settled_type-PointerTo items a = ap (settled_type items) (sym (type.rolls-PointerTo a)) ∙ fold-roll-RawType RawType (settled_type_step items) (RawType-F.PointerTo a)

pub settled_type-Array : (items : ℕ) (a : RawType) (n : RawLength) → settled_type items (type.Array a n) ≡ type.Array (settled_type items a) (settled_length items n)
settled_type-Array items a n = ap (settled_type items) (sym (type.rolls-Array a n)) ∙ fold-roll-RawType RawType (settled_type_step items) (RawType-F.Array a n)

pub settled_type-Struct : (items : ℕ) (tag : Bytes) → settled_type items (type.Struct tag) ≡ type.Struct tag
settled_type-Struct items tag = ap (settled_type items) (sym (type.rolls-Struct tag)) ∙ fold-roll-RawType RawType (settled_type_step items) (RawType-F.Struct tag)

-- Each form of type in the tree, as equations, and what is said of a type with a length that is too great.
use Rattle.std.proofs.Common.{◌≡◌, ℕ, ◌+◌, ◌≤◌, zero, suc, max, List, [], ◌++◌, Option, Some, None, option_map, refl, sym, ap, subst, ◌∙◌, arith}
use Rattle.c_arith.specs.declared.int_type.IntType.{IntType}
use Rattle.c_tree.specs.declared.types.CType.{CType, fold-roll-CType}
use Rattle.c_tree.specs.declared.types.CType.TheOpen.{CType-F}
use Rattle.c_tree.specs.declared.types.CType.TheVariants as tree
use Rattle.c_tree.specs.declared.raw.expr.RawExpr.{RawExpr}
use Rattle.c_tree.specs.declared.raw.expr.RawLength.{RawLength}
use Rattle.c_tree.specs.declared.raw.expr.RawLength.TheVariants as length_of
use Rattle.c_tree.specs.declared.raw.expr.RawType.{RawType, map-RawType, ind-RawType, roll-RawType, fold-roll-RawType}
use Rattle.c_tree.specs.declared.raw.expr.RawType.TheOpen.{RawType-F}
use Rattle.c_tree.specs.declared.raw.expr.RawType.TheVariants as type
use Rattle.c_tree.specs.declared.raw.program.RawProgram.{RawProgram}
use Rattle.c_language.specs.Words.{Bytes}
use Rattle.c_language.specs.ConstantEvaluation.{both}
use Rattle.c_language.specs.DeclaredTypes.{struct_id, length_in}
use Rattle.c_language.specs.Limits.{length_step, longest}
use Rattle.c_language.specs.ProgramOf.{ctype_step, ctype_with, ctype, length_words}
use Rattle.c_language.specs.TypeGrammar.{pointed_n}
use Rattle.c_language.specs.Uses.{lengths_in, lengths_step, written_lengths}
use Rattle.c_language.proofs.Options.{some_same, none_there, there_of_map}
use Rattle.c_types_trees.specs.KeptPhrases.{HasNoLength}
use Rattle.c_types_trees.specs.Shapes.{IsLong}
use Rattle.c_language.specs.Options.{IsThere}

-- ---- the forms

module _ (raw : RawProgram) (items : ℕ) where
  pub ctype-Integer : (t : IntType) → ctype_with raw items (type.Integer t) ≡ Some (tree.Integer t)
  ctype-Integer t = ap (ctype_with raw items) (sym (type.rolls-Integer t)) ∙ fold-roll-RawType (Option CType) (ctype_step raw items) (RawType-F.Integer t)

  pub ctype-PointerTo : (a : RawType) → ctype_with raw items (type.PointerTo a) ≡ option_map tree.PointerTo (ctype_with raw items a)
  ctype-PointerTo a = ap (ctype_with raw items) (sym (type.rolls-PointerTo a)) ∙ fold-roll-RawType (Option CType) (ctype_step raw items) (RawType-F.PointerTo a)

  pub ctype-Array : (a : RawType) (n : RawLength)
      → ctype_with raw items (type.Array a n) ≡ both (λ (t : CType) (k : ℕ). tree.Array t k (length_words items n)) (ctype_with raw items a) (length_in items n)
  ctype-Array a n = ap (ctype_with raw items) (sym (type.rolls-Array a n)) ∙ fold-roll-RawType (Option CType) (ctype_step raw items) (RawType-F.Array a n)

  pub ctype-Struct : (tag : Bytes) → ctype_with raw items (type.Struct tag) ≡ option_map tree.Struct (struct_id raw tag)
  ctype-Struct tag = ap (ctype_with raw items) (sym (type.rolls-Struct tag)) ∙ fold-roll-RawType (Option CType) (ctype_step raw items) (RawType-F.Struct tag)

pub ruleset shapes_of = (ctype-Integer, ctype-PointerTo, ctype-Array, ctype-Struct)

pub longest-Integer : (t : IntType) → longest (tree.Integer t) ≡ 0
longest-Integer t = ap longest (sym (tree.rolls-Integer t)) ∙ fold-roll-CType ℕ length_step (CType-F.Integer t)

pub longest-PointerTo : (a : CType) → longest (tree.PointerTo a) ≡ longest a
longest-PointerTo a = ap longest (sym (tree.rolls-PointerTo a)) ∙ fold-roll-CType ℕ length_step (CType-F.PointerTo a)

pub longest-Array : (a : CType) (n : ℕ) (words : Bytes) → longest (tree.Array a n words) ≡ max n (longest a)
longest-Array a n words = ap longest (sym (tree.rolls-Array a n words)) ∙ fold-roll-CType ℕ length_step (CType-F.Array a n words)

pub longest-Struct : (s : ℕ) → longest (tree.Struct s) ≡ 0
longest-Struct s = ap longest (sym (tree.rolls-Struct s)) ∙ fold-roll-CType ℕ length_step (CType-F.Struct s)

-- ---- types without lengths

zero_max : (n : ℕ) → n ≡ 0 → max 0 n ≡ 0
zero_max n h = omega (arith, h)

module _ (raw : RawProgram) where
  abbrev IsShort : RawType → Type 0
  IsShort a = HasNoLength a → (t : CType) → ctype raw a ≡ Some t → longest t ≡ 0

  abbrev layer_of : RawType-F ((a : RawType) × IsShort a) → RawType-F RawType
  layer_of = map-RawType ((a : RawType) × IsShort a) RawType (λ a. a.0)

  no_first : (n : RawLength) (ns : List RawExpr) → written_lengths n ++ ns ≡ [] → (n ≡ length_of.Listed) × (ns ≡ [])
  no_first (length_of.Written x) ns h = absurd (cc)
  no_first length_of.Listed ns h = (refl, h)

  short_pointer : (o : Option CType) → ((t : CType) → o ≡ Some t → longest t ≡ 0) → (t : CType) → option_map tree.PointerTo o ≡ Some t → longest t ≡ 0
  short_pointer None h t is = none_there is
  short_pointer (Some a) h t is = subst (λ x. longest x ≡ 0) (some_same is) (longest-PointerTo a ∙ h a refl)

  short_array : (words : Bytes) (o : Option CType) → ((t : CType) → o ≡ Some t → longest t ≡ 0)
      → (t : CType) → both (λ (u : CType) (k : ℕ). tree.Array u k words) o (Some 0) ≡ Some t → longest t ≡ 0
  short_array words None h t is = none_there is
  short_array words (Some a) h t is = subst (λ x. longest x ≡ 0) (some_same is) (longest-Array a 0 words ∙ zero_max (longest a) (h a refl))

  short_struct : (o : Option ℕ) (t : CType) → option_map tree.Struct o ≡ Some t → longest t ≡ 0
  short_struct None t is = none_there is
  short_struct (Some s) t is = subst (λ x. longest x ≡ 0) (some_same is) (longest-Struct s)

  short_layer : (y : RawType-F ((a : RawType) × IsShort a)) → lengths_step (map-RawType RawType (List RawExpr) lengths_in (layer_of y)) ≡ []
      → (t : CType) → ctype_step raw 0 (map-RawType RawType (Option CType) (ctype raw) (layer_of y)) ≡ Some t → longest t ≡ 0
  short_layer (RawType-F.Integer i) none t is = subst (λ x. longest x ≡ 0) (some_same is) (longest-Integer i)
  short_layer (RawType-F.PointerTo a) none t is = short_pointer (ctype raw a.0) (a.1 none) t is
  short_layer (RawType-F.Array a n) none t is =
      let k = no_first n (lengths_in a.0) none in
      short_array (length_words 0 n) (ctype raw a.0) (a.1 k.1) t
      (subst (λ m. both (λ (u : CType) (j : ℕ). tree.Array u j (length_words 0 n)) (ctype raw a.0) (length_in 0 m) ≡ Some t) k.0 is)
  short_layer (RawType-F.Struct tag) none t is = short_struct (struct_id raw tag) t is

  short_roll : (y : RawType-F ((a : RawType) × IsShort a)) → IsShort (roll-RawType (layer_of y))
  short_roll y none t is =
      short_layer y (sym (fold-roll-RawType (List RawExpr) lengths_step (layer_of y)) ∙ none) t (sym (fold-roll-RawType (Option CType) (ctype_step raw 0) (layer_of y)) ∙ is)

  no_length_short : (a : RawType) → IsShort a
  no_length_short = ind-RawType IsShort (λ x y is. subst (λ z. IsShort (roll-RawType z)) is (short_roll y))

  -- a type without lengths isn't too long
  pub never_long : (a : RawType) → HasNoLength a → IsThere (ctype raw a) → IsLong (ctype raw a) → ⊥
  never_long a none there long = at_value (ctype raw a) there refl
    where
      at_value : (o : Option CType) → IsThere o → ctype raw a ≡ o → ⊥
      at_value None given is = given
      at_value (Some t) given is = let zero_length : longest t ≡ 0 = no_length_short a none t is in let great : 4294967296 ≤ longest t = long t is in omega (arith, zero_length, great)

  -- ---- stars

  pub pointed-last : (n : ℕ) (a : RawType) → pointed_n (suc n) a ≡ type.PointerTo (pointed_n n a)
  pointed-last zero a = refl
  pointed-last (suc n) a = pointed-last n (type.PointerTo a)

  -- what stars stand upon is a type
  pub base_given : (n : ℕ) (a : RawType) → IsThere (ctype raw (pointed_n n a)) → IsThere (ctype raw a)
  base_given zero a h = h
  base_given (suc n) a h = there_of_map tree.PointerTo (ctype raw a) (subst IsThere (ctype-PointerTo raw 0 a) (base_given n (type.PointerTo a) h))

  -- one star more
  pub star_more : (n : ℕ) (a : RawType) (t : CType) → ctype raw (pointed_n n a) ≡ Some t → ctype raw (pointed_n (n + 1) a) ≡ Some (tree.PointerTo t)
  star_more n a t is =
      let k : suc n ≡ n + 1 = omega arith in
      subst (λ m. ctype raw (pointed_n m a) ≡ Some (tree.PointerTo t)) k
      (ap (ctype raw) (pointed-last n a) ∙ (ctype-PointerTo raw 0 (pointed_n n a) ∙ ap (option_map tree.PointerTo) is))

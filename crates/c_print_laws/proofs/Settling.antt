-- What the layout keeps of a text resembles it, and its variables have the same types.
use Rattle.std.proofs.Common.{◌≡◌, ℕ, zero, suc, pred, ◌<◌, ◌&&◌, ◌||◌, List, [], ◌∷◌, ◌++◌, map, Bool, true, false, not, Option, Some, pos, decimal, refl, sym, ap, ap₂, subst, ◌∙◌, arith, ◌⊎◌, inl, inr}
use Rattle.std.specs.Prelude.{Contains, nat_lt, option_map, option_and_then, if◌then◌else◌}
use Rattle.std.proofs.lemmas.Bool.Decides.{nat_tests}
use Rattle.std.specs.List.{list_any, AllZip}
use Rattle.std.proofs.lemmas.Bool.{and_parts}
use Rattle.std.proofs.lemmas.List.Elements.{Contains-append_cases, Contains-append_left, Contains-append_right}
use Rattle.c_language.proofs.LayerForms.{type-roll, ctype-roll}
use Rattle.c_tree.specs.declared.types.CType.{CType}
use Rattle.c_tree.specs.declared.types.CType.TheVariants as t
use Rattle.c_tree.specs.declared.raw.expr.RawExpr.{RawExpr, fold-roll-RawExpr}
use Rattle.c_tree.specs.declared.raw.expr.RawExpr.TheOpen.{RawExpr-F}
use Rattle.c_tree.specs.declared.raw.expr.RawExpr.TheVariants as e
use Rattle.c_tree.specs.declared.raw.expr.RawLength.{RawLength}
use Rattle.c_tree.specs.declared.raw.expr.RawLength.TheVariants.{Written, Listed}
use Rattle.c_tree.specs.declared.raw.expr.RawType.{RawType, roll-RawType, map-RawType, fold-roll-RawType}
use Rattle.c_tree.specs.declared.raw.expr.RawType.TheOpen.{RawType-F}
use Rattle.c_tree.specs.declared.raw.expr.RawType.TheVariants as type
use Rattle.c_tree.specs.declared.raw.expr.RawVar.{RawVar}
use Rattle.c_tree.specs.declared.raw.program.RawInit.{RawInit}
use Rattle.c_tree.specs.declared.raw.program.RawItem.{RawItem}
use Rattle.c_tree.specs.declared.raw.program.RawItem.TheVariants.{Include, Tag, Struct, Global, Prototype, Define}
use Rattle.c_tree.specs.declared.raw.program.RawMember.{RawMember}
use Rattle.c_tree.specs.declared.raw.program.RawHead.{RawHead}
use Rattle.c_tree.specs.declared.raw.program.RawProgram.{RawProgram}
use Rattle.c_tree.proofs.RawTrees.{TypeParts, type_layer, of_every_type}
use Rattle.c_language.specs.Words.{Bytes}
use Rattle.c_language.specs.TypeGrammar.{is_empty_length, is_written, written_step}
use Rattle.c_language.specs.ProgramOf.{length_words, ctype_step, ctype_with}
use Rattle.c_language.specs.ConstantEvaluation.{both, constant, constant_step, value_of_constant, literal_value}
use Rattle.c_language.specs.CountConstants.{IsCountConstant, LengthsAmong}
use Rattle.c_language.specs.declared.constant.Constant.{Constant}
use Rattle.c_language.specs.DeclaredTypes.{struct_texts, function_texts, positive, length_in, with_layer, type_step, type_with, item_count, is_include}
use Rattle.c_language.specs.Uses.{written_lengths, lengths_step, lengths_in, tags_step, tags_in}
use Rattle.c_language.specs.declared.expr_type.Layer.TheVariants.{Array}
use Rattle.c_language.specs.declared.expr_type.ExprType.{ExprType}
use Rattle.c_text_layout.specs.Settled.{settled_length, settled_type_step, settled_type, settled_var, settled_member, settled_param, settled_head, settled_item}
use Rattle.c_text_layout.proofs.DecimalPrint.{decimal_literal}
use Rattle.c_language.proofs.RawWordLemmas.{raw_words-Constant}
use Rattle.c_language.proofs.ConstantLemmas.{counted_positive}
use Rattle.c_print_laws.proofs.Alike.{pairwise_of}
use Rattle.c_print_laws.proofs.Resembling.{MembersAgree, StructsAgree, ParamsAgree, HeadsAgree, Resembles, types_same, ctypes_same}
use Rattle.c_print_laws.proofs.RuleTransfer.{VarsAgree}
use Rattle.c_language.proofs.Tests.{false_true, by_answer}

-- what the layout keeps of a text
abbrev pub settled_program : RawProgram → RawProgram
settled_program raw = record { items = map settled_item raw.items }

-- ---- struct types, functions and headers

pub heads_agree : (h : RawHead) → HeadsAgree h (settled_head h)
heads_agree h = record { name = refl; result = refl; params = pairwise_of ParamsAgree settled_param (λ p. record { name = refl; shape = refl }) h.params }

pub members_agree : (ms : List RawMember) → AllZip MembersAgree ms (map settled_member ms)
members_agree ms = pairwise_of MembersAgree settled_member (λ m. record { name = refl; shape = refl }) ms

structs_agree : (xs : List RawItem) → AllZip StructsAgree (struct_texts xs) (struct_texts (map settled_item xs))
structs_agree [] = tt
structs_agree (Include is_stdlib ∷ xs) = structs_agree xs
structs_agree (Tag l w ∷ xs) = structs_agree xs
structs_agree (Struct l w members ∷ xs) = (record { tag = refl; members = members_agree members }, structs_agree xs)
structs_agree (Global l v i is_static ∷ xs) = structs_agree xs
structs_agree (Prototype l h ∷ xs) = structs_agree xs
structs_agree (Define l h body ∷ xs) = structs_agree xs

functions_agree : (xs : List RawItem) → AllZip HeadsAgree (function_texts xs) (function_texts (map settled_item xs))
functions_agree [] = tt
functions_agree (Include is_stdlib ∷ xs) = functions_agree xs
functions_agree (Tag l w ∷ xs) = functions_agree xs
functions_agree (Struct l w members ∷ xs) = functions_agree xs
functions_agree (Global l v i is_static ∷ xs) = functions_agree xs
functions_agree (Prototype l h ∷ xs) = functions_agree xs
functions_agree (Define l h body ∷ xs) = (heads_agree h, functions_agree xs)

include_same : (b : Bool) (x : RawItem) → is_include b x ≡ is_include b (settled_item x)
include_same true (Include true) = refl
include_same true (Include false) = refl
include_same false (Include true) = refl
include_same false (Include false) = refl
include_same true (Tag l w) = refl
include_same false (Tag l w) = refl
include_same true (Struct l w members) = refl
include_same false (Struct l w members) = refl
include_same true (Global l v i is_static) = refl
include_same false (Global l v i is_static) = refl
include_same true (Prototype l h) = refl
include_same false (Prototype l h) = refl
include_same true (Define l h body) = refl
include_same false (Define l h body) = refl

includes_same : (b : Bool) (xs : List RawItem) → list_any (is_include b) xs ≡ list_any (is_include b) (map settled_item xs)
includes_same b [] = refl
includes_same b (x ∷ xs) = ap₂ (λ (p q : Bool). p || q) (include_same b x) (includes_same b xs)

-- what the layout keeps of a text resembles the text
pub settled_resembles : (raw : RawProgram) → Resembles raw (settled_program raw)
settled_resembles raw = record { structs = structs_agree raw.items; functions = functions_agree raw.items; stdio = includes_same false raw.items; stdlib = includes_same true raw.items }

-- ---- types

-- a list with items can give a length
abbrev pub CanCount : ℕ → Type 0
CanCount items = 0 < items

pub constant_value_of : (text : Bytes) → value_of_constant (e.Constant text) ≡ Some (pos (literal_value text))
constant_value_of text =
    ap (option_and_then (λ (x : Constant). x.value)) (ap constant (sym (e.rolls-Constant text)) ∙ fold-roll-RawExpr (Option Constant) constant_step (RawExpr-F.Constant text))

counted_value : (items : ℕ) → CanCount items → nat_lt items 4294967296 ≡ true → value_of_constant (e.Constant (decimal items)) ≡ Some (pos items)
counted_value items h few = constant_value_of (decimal items) ∙ ap (λ (n : ℕ). Some (pos n)) (decimal_literal items h (grind (arith, nat_tests)))

counted_length : (items : ℕ) → CanCount items → nat_lt items 4294967296 ≡ true → option_and_then positive (value_of_constant (e.Constant (decimal items))) ≡ Some items
counted_length items h few = ap (option_and_then positive) (counted_value items h few) ∙ counted_positive items h

module _ (items : ℕ) where
  -- the lengths of the type are all written, or the list can give one
  abbrev pub IsCounted : Bool → Type 0
  IsCounted b = (b ≡ true) ⊎ CanCount items

  settled_length_same : (n : RawLength) → IsCounted (not (is_empty_length n)) → length_in items (settled_length items n) ≡ length_in items n
  settled_length_same (Written a) h = refl
  settled_length_same Listed (inl h) = false_true h
  settled_length_same Listed (inr h) = by_answer (nat_lt items 4294967296) (λ few. rw few (counted_length items h few)) (λ many. rw many refl)

  both_counted : (a b : Bool) → IsCounted (a && b) → IsCounted a × IsCounted b
  both_counted a b (inl h) = let p = and_parts a b h in (inl p.0, inl p.1)
  both_counted a b (inr h) = (inr h, inr h)

  module _ (raw : RawProgram) where
    abbrev IsSettled : RawType → Type 0
    IsSettled a = IsCounted (is_written a) → type_with raw items (settled_type items a) ≡ type_with raw items a

    settled_rolled : (y : RawType-F RawType) → settled_type items (roll-RawType y) ≡ settled_type_step items (map-RawType RawType RawType (settled_type items) y)
    settled_rolled y = fold-roll-RawType RawType (settled_type_step items) y

    settled_layer : (y : TypeParts IsSettled) → IsCounted (written_step (map-RawType RawType Bool is_written (type_layer IsSettled y)))
        → type_with raw items (settled_type_step items (map-RawType RawType RawType (settled_type items) (type_layer IsSettled y))) ≡ type_step raw items (map-RawType RawType (Option ExprType) (type_with raw items) (type_layer IsSettled y))
    settled_layer (RawType-F.Integer i) h = ap (type_with raw items) (sym (type.rolls-Integer i)) ∙ type-roll raw items (RawType-F.Integer i)
    settled_layer (RawType-F.PointerTo a) h =
        ap (type_with raw items) (sym (type.rolls-PointerTo (settled_type items a.0))) ∙ type-roll raw items (RawType-F.PointerTo (settled_type items a.0)) ∙ ap (λ (x : Option ExprType). type_step raw items (RawType-F.PointerTo x)) (a.1 h)
    settled_layer (RawType-F.Array a n) h =
        let k = both_counted (not (is_empty_length n)) (is_written a.0) h in
        ap (type_with raw items) (sym (type.rolls-Array (settled_type items a.0) (settled_length items n))) ∙ type-roll raw items (RawType-F.Array (settled_type items a.0) (settled_length items n))
        ∙ ap₂ (λ (x : Option ExprType) (m : Option ℕ). option_and_then (λ (t : ExprType). option_map (λ (k : ℕ). with_layer (Array k) t) m) x) (a.1 k.1) (settled_length_same n k.0)
    settled_layer (RawType-F.Struct w) h = ap (type_with raw items) (sym (type.rolls-Struct w)) ∙ type-roll raw items (RawType-F.Struct w)

    pub settled_type_same : (a : RawType) → IsCounted (is_written a) → type_with raw items (settled_type items a) ≡ type_with raw items a
    settled_type_same = of_every_type IsSettled (λ y h.
        ap (type_with raw items) (settled_rolled (type_layer IsSettled y))
        ∙ settled_layer y (subst IsCounted (fold-roll-RawType Bool written_step (type_layer IsSettled y)) h)
        ∙ sym (type-roll raw items (type_layer IsSettled y)))

    -- ---- in the program

    words_same : (n : RawLength) → length_words items (settled_length items n) ≡ length_words items n
    words_same (Written a) = refl
    words_same Listed = by_answer (nat_lt items 4294967296) (λ few. rw few (raw_words-Constant (decimal items))) (λ many. rw many refl)

    abbrev IsSameTree : RawType → Type 0
    IsSameTree a = IsCounted (is_written a) → ctype_with raw items (settled_type items a) ≡ ctype_with raw items a

    tree_layer : (y : TypeParts IsSameTree) → IsCounted (written_step (map-RawType RawType Bool is_written (type_layer IsSameTree y)))
        → ctype_with raw items (settled_type_step items (map-RawType RawType RawType (settled_type items) (type_layer IsSameTree y))) ≡ ctype_step raw items (map-RawType RawType (Option CType) (ctype_with raw items) (type_layer IsSameTree y))
    tree_layer (RawType-F.Integer i) h = ap (ctype_with raw items) (sym (type.rolls-Integer i)) ∙ ctype-roll raw items (RawType-F.Integer i)
    tree_layer (RawType-F.PointerTo a) h =
        ap (ctype_with raw items) (sym (type.rolls-PointerTo (settled_type items a.0))) ∙ ctype-roll raw items (RawType-F.PointerTo (settled_type items a.0)) ∙ ap (option_map t.PointerTo) (a.1 h)
    tree_layer (RawType-F.Array a n) h =
        let k = both_counted (not (is_empty_length n)) (is_written a.0) h in
        ap (ctype_with raw items) (sym (type.rolls-Array (settled_type items a.0) (settled_length items n))) ∙ ctype-roll raw items (RawType-F.Array (settled_type items a.0) (settled_length items n))
        ∙ ap (λ (w : Bytes). both (λ (b : CType) (k : ℕ). t.Array b k w) (ctype_with raw items (settled_type items a.0)) (length_in items (settled_length items n))) (words_same n)
        ∙ ap₂ (λ (x : Option CType) (m : Option ℕ). both (λ (b : CType) (k : ℕ). t.Array b k (length_words items n)) x m) (a.1 k.1) (settled_length_same n k.0)
    tree_layer (RawType-F.Struct w) h = ap (ctype_with raw items) (sym (type.rolls-Struct w)) ∙ ctype-roll raw items (RawType-F.Struct w)

    pub settled_tree_same : (a : RawType) → IsCounted (is_written a) → ctype_with raw items (settled_type items a) ≡ ctype_with raw items a
    settled_tree_same = of_every_type IsSameTree (λ y h.
        ap (ctype_with raw items) (settled_rolled (type_layer IsSameTree y))
        ∙ tree_layer y (subst IsCounted (fold-roll-RawType Bool written_step (type_layer IsSameTree y)) h)
        ∙ sym (ctype-roll raw items (type_layer IsSameTree y)))

  -- ---- tags

  abbrev HasTags : RawType → Type 0
  HasTags a = tags_in (settled_type items a) ≡ tags_in a

  tags_layer : (y : TypeParts HasTags) → tags_in (settled_type_step items (map-RawType RawType RawType (settled_type items) (type_layer HasTags y))) ≡ tags_step (map-RawType RawType (List Bytes) tags_in (type_layer HasTags y))
  tags_layer (RawType-F.Integer i) = ap tags_in (sym (type.rolls-Integer i)) ∙ fold-roll-RawType (List Bytes) tags_step (RawType-F.Integer i)
  tags_layer (RawType-F.PointerTo a) = ap tags_in (sym (type.rolls-PointerTo (settled_type items a.0))) ∙ fold-roll-RawType (List Bytes) tags_step (RawType-F.PointerTo (settled_type items a.0)) ∙ a.1
  tags_layer (RawType-F.Array a n) =
      ap tags_in (sym (type.rolls-Array (settled_type items a.0) (settled_length items n))) ∙ fold-roll-RawType (List Bytes) tags_step (RawType-F.Array (settled_type items a.0) (settled_length items n)) ∙ a.1
  tags_layer (RawType-F.Struct w) = ap tags_in (sym (type.rolls-Struct w)) ∙ fold-roll-RawType (List Bytes) tags_step (RawType-F.Struct w)

  pub settled_tags : (a : RawType) → tags_in (settled_type items a) ≡ tags_in a
  settled_tags = of_every_type HasTags (λ y.
      ap tags_in (fold-roll-RawType RawType (settled_type_step items) (type_layer HasTags y)) ∙ tags_layer y ∙ sym (fold-roll-RawType (List Bytes) tags_step (type_layer HasTags y)))

  -- ---- lengths

  -- the written lengths of the first, and at most lengths that the list gives
  pub record SameLengths (some all : List RawExpr) : Type 0 where
    pub left : LengthsAmong some all
    pub right : LengthsAmong all some

  append_lengths : (xs ys zs ws : List RawExpr) → LengthsAmong xs ys → LengthsAmong zs ws → LengthsAmong (xs ++ zs) (ys ++ ws)
  append_lengths xs ys zs ws h k a c = elim (Contains-append_cases xs zs a c) [
    | inl d ↦ elim (h a d) [ inl x ↦ inl (Contains-append_left ys ws a x) | inr x ↦ inr x ]
    | inr d ↦ elim (k a d) [ inl x ↦ inl (Contains-append_right ys ws a x) | inr x ↦ inr x ]
  ]

  list_length : CanCount items → nat_lt items 4294967296 ≡ true → IsCountConstant (e.Constant (decimal items))
  list_length h few = record { text = decimal items; is = refl; less = pred items; value = counted_value items h few ∙ ap (λ (n : ℕ). Some (pos n)) (omega (arith, h)) }

  length_lists : (n : RawLength) → IsCounted (not (is_empty_length n)) → SameLengths (written_lengths n) (written_lengths (settled_length items n))
  length_lists (Written a) h = record { left = λ b c. inl c; right = λ b c. inl c }
  length_lists Listed (inl h) = false_true h
  length_lists Listed (inr h) = record { left = λ b c. absurd (omega (arith, c.1)); right = λ b c. inr (by_length b c) }
    where
      one_member : (x y : RawExpr) → Contains (x ∷ []) y → x ≡ y
      one_member x y (zero, within, is) = is
      one_member x y (suc k, within, is) = absurd (omega (arith, within))

      by_test : (t : Bool) → nat_lt items 4294967296 ≡ t → (b : RawExpr) → Contains (written_lengths (if t then Written (e.Constant (decimal items)) else Listed)) b → IsCountConstant b
      by_test true few b c = subst IsCountConstant (one_member (e.Constant (decimal items)) b c) (list_length h few)
      by_test false many b c = absurd (omega (arith, c.1))

      by_length : (b : RawExpr) → Contains (written_lengths (settled_length items Listed)) b → IsCountConstant b
      by_length = by_test (nat_lt items 4294967296) refl

  abbrev HasLengths : RawType → Type 0
  HasLengths a = IsCounted (is_written a) → SameLengths (lengths_in a) (lengths_in (settled_type items a))

  lengths_layer : (y : TypeParts HasLengths) → IsCounted (written_step (map-RawType RawType Bool is_written (type_layer HasLengths y)))
      → SameLengths (lengths_step (map-RawType RawType (List RawExpr) lengths_in (type_layer HasLengths y))) (lengths_in (settled_type_step items (map-RawType RawType RawType (settled_type items) (type_layer HasLengths y))))
  lengths_layer (RawType-F.Integer i) h =
      subst (SameLengths []) (sym (ap lengths_in (sym (type.rolls-Integer i)) ∙ fold-roll-RawType (List RawExpr) lengths_step (RawType-F.Integer i))) (record { left = λ b c. inl c; right = λ b c. inl c })
  lengths_layer (RawType-F.PointerTo a) h =
      subst (SameLengths (lengths_in a.0)) (sym (ap lengths_in (sym (type.rolls-PointerTo (settled_type items a.0))) ∙ fold-roll-RawType (List RawExpr) lengths_step (RawType-F.PointerTo (settled_type items a.0)))) (a.1 h)
  lengths_layer (RawType-F.Array a n) h =
      let k = both_counted (not (is_empty_length n)) (is_written a.0) h in
      let m = length_lists n k.0 in
      let r = a.1 k.1 in
      subst (SameLengths (written_lengths n ++ lengths_in a.0)) (sym (ap lengths_in (sym (type.rolls-Array (settled_type items a.0) (settled_length items n))) ∙ fold-roll-RawType (List RawExpr) lengths_step (RawType-F.Array (settled_type items a.0) (settled_length items n))))
      (record {
        left = append_lengths (written_lengths n) (written_lengths (settled_length items n)) (lengths_in a.0) (lengths_in (settled_type items a.0)) m.left r.left;
        right = append_lengths (written_lengths (settled_length items n)) (written_lengths n) (lengths_in (settled_type items a.0)) (lengths_in a.0) m.right r.right;
      })
  lengths_layer (RawType-F.Struct w) h =
      subst (SameLengths []) (sym (ap lengths_in (sym (type.rolls-Struct w)) ∙ fold-roll-RawType (List RawExpr) lengths_step (RawType-F.Struct w))) (record { left = λ b c. inl c; right = λ b c. inl c })

  pub settled_lengths : (a : RawType) → IsCounted (is_written a) → SameLengths (lengths_in a) (lengths_in (settled_type items a))
  settled_lengths = of_every_type HasLengths (λ y h.
      let l = type_layer HasLengths y in
      subst (λ (some : List RawExpr). SameLengths some (lengths_in (settled_type items (roll-RawType l)))) (sym (fold-roll-RawType (List RawExpr) lengths_step l))
      (subst (λ (t : RawType). SameLengths (lengths_step (map-RawType RawType (List RawExpr) lengths_in l)) (lengths_in t)) (sym (fold-roll-RawType RawType (settled_type_step items) l))
      (lengths_layer y (subst IsCounted (fold-roll-RawType Bool written_step l) h))))

-- a variable agrees with what the layout keeps of it
pub settled_var_agrees : (raw other : RawProgram) → Resembles raw other → (i : RawInit) (v : RawVar) → IsCounted (item_count i) (is_written v.shape) → VarsAgree raw other i v (settled_var (item_count i) v)
settled_var_agrees raw other like i v h =
    let k = settled_lengths (item_count i) v.shape h in
    record {
      name = refl;
      type = sym (settled_type_same (item_count i) raw v.shape h) ∙ types_same raw other like (item_count i) (settled_type (item_count i) v.shape);
      tree = sym (settled_tree_same (item_count i) raw v.shape h) ∙ ctypes_same raw other like (item_count i) (settled_type (item_count i) v.shape);
      tag = sym (settled_tags (item_count i) v.shape);
      left = k.left;
      right = k.right;
    }

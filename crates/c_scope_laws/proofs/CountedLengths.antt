-- A variable whose initialiser is dropped keeps its type, where a length that its list gave is written as a constant.
use Rattle.std.proofs.Common.{◌≡◌, ℕ, zero, suc, pred, ◌<◌, List, ◌∷◌, Bool, true, Option, Some, pos, decimal, refl, sym, ap, ap₂, subst, ◌∙◌, arith, ◌⊎◌, inl, inr}
use Rattle.std.specs.Prelude.{Contains, option_map, option_and_then}
use Rattle.c_language.specs.TypeGrammar.{written_step, is_written}
use Rattle.c_arith.specs.declared.int_type.IntType.{IntType}
use Rattle.c_tree.specs.declared.types.CType.{CType}
use Rattle.c_tree.specs.declared.types.CType.TheVariants as t
use Rattle.c_tree.specs.declared.raw.expr.RawExpr.{RawExpr}
use Rattle.c_tree.specs.declared.raw.expr.RawLength.{RawLength}
use Rattle.c_tree.specs.declared.raw.expr.RawLength.TheVariants.{Written, Listed}
use Rattle.c_tree.specs.declared.raw.expr.RawType.{RawType, roll-RawType, map-RawType, ind-RawType, fold-RawType, fold-roll-RawType}
use Rattle.c_tree.specs.declared.raw.expr.RawType.TheOpen.{RawType-F}
use Rattle.c_tree.specs.declared.raw.expr.RawType.TheVariants as type
use Rattle.c_tree.specs.declared.raw.expr.RawVar.{RawVar}
use Rattle.c_tree.specs.declared.raw.program.RawInit.{RawInit}
use Rattle.c_tree.specs.declared.raw.program.RawInit.TheVariants as init
use Rattle.c_tree.specs.declared.raw.program.RawProgram.{RawProgram}
use Rattle.c_language.specs.Words.{Bytes}
use Rattle.c_language.specs.ConstantEvaluation.{both}
use Rattle.c_language.specs.CountConstants.{IsCountConstant, LengthsAmong}
use Rattle.c_language.specs.DeclaredTypes.{positive, length_in, of_base, pointer_to, with_layer, type_step, type_with, item_count}
use Rattle.c_language.specs.Uses.{lengths_step, lengths_in, tags_step, tags_in}
use Rattle.c_language.specs.ProgramOf.{raw_words, length_words, ctype_step, ctype_with}
use Rattle.c_language.specs.declared.expr_type.Layer.TheVariants.{Array}
use Rattle.c_language.specs.declared.expr_type.Base.TheVariants as base
use Rattle.c_language.specs.declared.expr_type.ExprType.{ExprType}
use Rattle.c_language.proofs.Tests.{false_true}
use Rattle.c_language.proofs.Lists.{contains_later}
use Rattle.c_language.proofs.RawWordLemmas.{raw_words-Constant}
use Rattle.c_language.proofs.ConstantLemmas.{counted_positive}
use Rattle.c_scope_laws.specs.Agreement.{SameOutside, SameVariable, IsCount, CountWritten, integer, pointer, written, counted, structure}
use Rattle.c_scope_laws.proofs.Outside.{struct_ids}

-- ---- what folds make of each form

module _ {A : Type 0} (step : RawType-F A → A) where
  pub of_integer : (i : IntType) → fold-RawType A step (type.Integer i) ≡ step (RawType-F.Integer i)
  of_integer i = ap (fold-RawType A step) (sym (type.rolls-Integer i)) ∙ fold-roll-RawType A step (RawType-F.Integer i)

  pub of_pointer : (a : RawType) → fold-RawType A step (type.PointerTo a) ≡ step (RawType-F.PointerTo (fold-RawType A step a))
  of_pointer a = ap (fold-RawType A step) (sym (type.rolls-PointerTo a)) ∙ fold-roll-RawType A step (RawType-F.PointerTo a)

  pub of_array : (a : RawType) (n : RawLength) → fold-RawType A step (type.Array a n) ≡ step (RawType-F.Array (fold-RawType A step a) n)
  of_array a n = ap (fold-RawType A step) (sym (type.rolls-Array a n)) ∙ fold-roll-RawType A step (RawType-F.Array a n)

  pub of_struct : (tag : Bytes) → fold-RawType A step (type.Struct tag) ≡ step (RawType-F.Struct tag)
  of_struct tag = ap (fold-RawType A step) (sym (type.rolls-Struct tag)) ∙ fold-roll-RawType A step (RawType-F.Struct tag)

-- ---- lengths

count_length : (items : ℕ) (n : RawExpr) → IsCount items n → length_in 0 (Written n) ≡ length_in items Listed
count_length items n h = ap (option_and_then positive) h.value ∙ counted_positive items h.some

count_words : (items : ℕ) (n : RawExpr) → IsCount items n → length_words 0 (Written n) ≡ length_words items Listed
count_words items n h = ap raw_words h.is ∙ raw_words-Constant (decimal items)

count_constant : (items : ℕ) (n : RawExpr) → IsCount items n → IsCountConstant n
count_constant items n h = record { text = decimal items; is = h.is; less = pred items; value = h.value ∙ ap (λ (k : ℕ). Some (pos k)) (positive_suc items h.some) }
  where
    positive_suc : (items : ℕ) → 0 < items → items ≡ suc (pred items)
    positive_suc zero h = absurd (omega (arith, h))
    positive_suc (suc n) h = refl

among_same : (some all : List RawExpr) (x : RawExpr) → LengthsAmong some all → LengthsAmong (x ∷ some) (x ∷ all)
among_same some all x h n (zero, within, is) = inl (0, omega arith, is)
among_same some all x h n (suc k, within, is) = elim (h n (k, omega (arith, within), is)) [
  | inl j ↦ inl (contains_later x n all j)
  | inr j ↦ inr j
]

among_more : (some all : List RawExpr) (x : RawExpr) → IsCountConstant x → LengthsAmong some all → LengthsAmong (x ∷ some) all
among_more some all x is_count h n (zero, within, is) = inr (subst IsCountConstant is is_count)
among_more some all x is_count h n (suc k, within, is) = h n (k, omega (arith, within), is)

-- ---- types

module _ (raw other : RawProgram) (like : SameOutside raw other) (items : ℕ) where
  record Kept (a b : RawType) : Type 0 where
    pub type : type_with other 0 b ≡ type_with raw items a
    pub tree : ctype_with other 0 b ≡ ctype_with raw items a
    pub tags : tags_in b ≡ tags_in a
    pub lengths : LengthsAmong (lengths_in b) (lengths_in a)

  abbrev array_type : RawProgram → ℕ → RawLength → Option ExprType → Option ExprType
  array_type text k n x = type_step text k (RawType-F.Array x n)

  kept : {a b : RawType} → CountWritten items a b → Kept a b
  kept (integer {t = i}) = record {
    type = of_integer (type_step other 0) i ∙ sym (of_integer (type_step raw items) i);
    tree = of_integer (ctype_step other 0) i ∙ sym (of_integer (ctype_step raw items) i);
    tags = refl;
    lengths = λ n c. inl c;
  }
  kept (structure {tag}) = record {
    type = of_struct (type_step other 0) tag ∙ ap (option_map (λ (s : ℕ). of_base (base.Struct s))) (struct_ids raw other like tag) ∙ sym (of_struct (type_step raw items) tag);
    tree = of_struct (ctype_step other 0) tag ∙ ap (option_map t.Struct) (struct_ids raw other like tag) ∙ sym (of_struct (ctype_step raw items) tag);
    tags = refl;
    lengths = λ n c. inl c;
  }
  kept (pointer {a} {b} h) =
      let k = kept h in
      record {
        type = of_pointer (type_step other 0) b ∙ ap (option_map pointer_to) k.type ∙ sym (of_pointer (type_step raw items) a);
        tree = of_pointer (ctype_step other 0) b ∙ ap (option_map t.PointerTo) k.tree ∙ sym (of_pointer (ctype_step raw items) a);
        tags = of_pointer tags_step b ∙ k.tags ∙ sym (of_pointer tags_step a);
        lengths = λ n c. subst (λ (all : List RawExpr). Contains all n ⊎ IsCountConstant n) (sym (of_pointer lengths_step a)) (k.lengths n (subst (λ (all : List RawExpr). Contains all n) (of_pointer lengths_step b) c));
      }
  kept (written {a} {b} {n} h) =
      let k = kept h in
      record {
        type = of_array (type_step other 0) b (Written n) ∙ ap (array_type raw 0 (Written n)) k.type ∙ sym (of_array (type_step raw items) a (Written n));
        tree = of_array (ctype_step other 0) b (Written n) ∙ ap (λ (x : Option CType). ctype_step raw items (RawType-F.Array x (Written n))) k.tree ∙ sym (of_array (ctype_step raw items) a (Written n));
        tags = of_array tags_step b (Written n) ∙ k.tags ∙ sym (of_array tags_step a (Written n));
        lengths = λ m c. subst (λ (all : List RawExpr). Contains all m ⊎ IsCountConstant m) (sym (of_array lengths_step a (Written n)))
            (among_same (lengths_in b) (lengths_in a) n k.lengths m (subst (λ (all : List RawExpr). Contains all m) (of_array lengths_step b (Written n)) c));
      }
  kept (counted {a} {b} {n} h is) =
      let k = kept h in
      record {
        type = of_array (type_step other 0) b (Written n)
            ∙ ap₂ (λ (x : Option ExprType) (l : Option ℕ). option_and_then (λ (y : ExprType). option_map (λ (k : ℕ). with_layer (Array k) y) l) x) k.type (count_length items n is)
            ∙ sym (of_array (type_step raw items) a Listed);
        tree = of_array (ctype_step other 0) b (Written n)
            ∙ ap₂ (λ (w : Bytes) (l : Option ℕ). both (λ (y : CType) (k : ℕ). t.Array y k w) (ctype_with other 0 b) l) (count_words items n is) (count_length items n is)
            ∙ ap (λ (x : Option CType). both (λ (y : CType) (k : ℕ). t.Array y k (length_words items Listed)) x (length_in items Listed)) k.tree
            ∙ sym (of_array (ctype_step raw items) a Listed);
        tags = of_array tags_step b (Written n) ∙ k.tags ∙ sym (of_array tags_step a Listed);
        lengths = λ m c. subst (λ (all : List RawExpr). Contains all m ⊎ IsCountConstant m) (sym (of_array lengths_step a Listed))
            (among_more (lengths_in b) (lengths_in a) n (count_constant items n is) k.lengths m (subst (λ (all : List RawExpr). Contains all m) (of_array lengths_step b (Written n)) c));
      }

pub initialiser_drops : (raw other : RawProgram) → SameOutside raw other → (v w : RawVar) (i : RawInit) → w.name ≡ v.name → CountWritten (item_count i) v.shape w.shape
    → SameVariable raw other v i w init.None
initialiser_drops raw other like v w i name h =
    let k = kept raw other like (item_count i) h in
    record { name = name; type = k.type; tree = k.tree; tags = k.tags; lengths = k.lengths }

-- ---- where no length is left to a list

module _ (items : ℕ) where
  abbrev Stays : RawType → Type 0
  Stays a = is_written a ≡ true → CountWritten items a a

  of_layer : (y : RawType-F ((a : RawType) × Stays a)) → Stays (roll-RawType (map-RawType ((a : RawType) × Stays a) RawType (λ a. a.0) y))
  of_layer (RawType-F.Integer i) h = subst (λ (a : RawType). CountWritten items a a) (sym (type.rolls-Integer i)) integer
  of_layer (RawType-F.PointerTo a) h =
      subst (λ (a : RawType). CountWritten items a a) (sym (type.rolls-PointerTo a.0)) (pointer (a.1 (sym (fold-roll-RawType Bool written_step (RawType-F.PointerTo a.0)) ∙ h)))
  of_layer (RawType-F.Array a (Written n)) h =
      subst (λ (a : RawType). CountWritten items a a) (sym (type.rolls-Array a.0 (Written n))) (written (a.1 (sym (fold-roll-RawType Bool written_step (RawType-F.Array a.0 (Written n))) ∙ h)))
  of_layer (RawType-F.Array a Listed) h = false_true (sym (fold-roll-RawType Bool written_step (RawType-F.Array a.0 Listed)) ∙ h)
  of_layer (RawType-F.Struct tag) h = subst (λ (a : RawType). CountWritten items a a) (sym (type.rolls-Struct tag)) structure

  pub stays : (a : RawType) → Stays a
  stays = ind-RawType Stays (λ x y is. subst (λ z. Stays (roll-RawType z)) is (of_layer y))

-- An expression in which no rule is broken, and one that is a constant, has the words that the layout of its text has.
use Rattle.std.proofs.Common.{◌≡◌, ℕ, [], ◌∷◌, ◌++◌, codes, Bool, true, false, Option, Some, None, refl, sym, ap, ap₂, subst, ◌∙◌, true≢false}
use Rattle.std.specs.Prelude.{Contains, option_map, option_and_then}
use Rattle.std.proofs.lemmas.Bool.{false_from_ne_true}
use Rattle.c_tree.specs.declared.raw.expr.RawExpr.{RawExpr, map-RawExpr, roll-RawExpr, fold-roll-RawExpr}
use Rattle.c_tree.specs.declared.raw.expr.RawExpr.TheOpen.{RawExpr-F}
use Rattle.c_tree.specs.declared.raw.program.RawProgram.{RawProgram}
use Rattle.c_tree.proofs.RawTrees.{ExprParts, expr_layer, of_every_expr}
use Rattle.c_language.specs.Words.{Bytes, signed, binary_sign, int_words}
use Rattle.c_language.specs.ConstantEvaluation.{constant, constant_step, literal_type}
use Rattle.c_language.specs.declared.constant.Constant.{Constant}
use Rattle.c_language.specs.ProgramOf.{raw_words_step, raw_words}
use Rattle.c_language.specs.Scopes.{Scope, meaning_in}
use Rattle.c_language.specs.ExprTypes.{operand, operand_step, a_value, address_result, struct_of, pointed, constant_operand, member_of}
use Rattle.c_language.specs.ExprRules.{fails, holds_of, is_no_address, has_bad_operand, has_no_address}
use Rattle.c_language.specs.Uses.{operands_of}
use Rattle.c_language.specs.declared.expr_type.ExprType.{ExprType}
use Rattle.c_language.specs.declared.expr_type.Operand.{Operand}
use Rattle.c_text_layout.specs.SpacedWords.{Spaced, blank_if, spaced_step, spaced, spaced_words}
use Rattle.c_language.proofs.Operands.{IsClean, HasTypeIf, AreClean}
use Rattle.c_language.proofs.CleanOperands.{IsTypedIf, operands_keep, layer_clean, operand_there}
use Rattle.c_language.proofs.Tests.{false_true}
use Rattle.c_language.proofs.Lists.{contains_first, contains_later}
use Rattle.c_language.proofs.Options.{value_there, there_of_map, there_of_both, some_same, map_there}
use Rattle.c_language.specs.Options.{IsThere}

-- where no blank is needed, there is none
no_blank : (b : Bool) (w : Bytes) → b ≡ false → blank_if b ++ w ≡ w
no_blank b w h = ap (λ (c : Bool). blank_if c ++ w) h

-- ---- constants

abbrev ConstantSame : RawExpr → Type 0
ConstantSame a = IsThere (constant a) → spaced_words a ≡ raw_words a

abbrev spaced_layer : RawExpr-F RawExpr → RawExpr-F Spaced
spaced_layer = map-RawExpr RawExpr Spaced spaced

abbrev words_layer : RawExpr-F RawExpr → RawExpr-F Bytes
words_layer = map-RawExpr RawExpr Bytes raw_words

abbrev constant_layer : RawExpr-F RawExpr → RawExpr-F (Option Constant)
constant_layer = map-RawExpr RawExpr (Option Constant) constant

there_of_then : {A B : Type 0} (f : A → Option B) (o : Option A) → IsThere (option_and_then f o) → (x : A) × (o ≡ Some x) × IsThere (f x)
there_of_then f None h = absurd h
there_of_then f (Some x) h = (x, refl, h)

constant_layered : (y : ExprParts ConstantSame) → IsThere (constant_step (constant_layer (expr_layer ConstantSame y)))
    → (spaced_step (spaced_layer (expr_layer ConstantSame y))).words ≡ raw_words_step (words_layer (expr_layer ConstantSame y))
constant_layered (RawExpr-F.Constant text) h = refl
constant_layered RawExpr-F.Null h = refl
constant_layered RawExpr-F.Eof h = refl
constant_layered (RawExpr-F.Variable name) h = refl
constant_layered (RawExpr-F.Unary op a) h = ap (signed op) (a.1 (there_of_map _ (constant a.0) h))
constant_layered (RawExpr-F.Deref a) h = absurd h
constant_layered (RawExpr-F.AddressOf a) h = absurd h
constant_layered (RawExpr-F.Binary op a b) h =
    let k = there_of_both _ (constant a.0) (constant b.0) h in
    ap₂ (λ (v w : Bytes). v ++ (codes " " ++ (binary_sign op ++ (codes " " ++ w)))) (a.1 k.0) (b.1 k.1)
constant_layered (RawExpr-F.AndAlso a b) h =
    let k = there_of_both _ (constant a.0) (constant b.0) h in
    ap₂ (λ (v w : Bytes). v ++ (codes " && " ++ w)) (a.1 k.0) (b.1 k.1)
constant_layered (RawExpr-F.OrElse a b) h =
    let k = there_of_both _ (constant a.0) (constant b.0) h in
    ap₂ (λ (v w : Bytes). v ++ (codes " || " ++ w)) (a.1 k.0) (b.1 k.1)
constant_layered (RawExpr-F.Choose c a b) h =
    let g = there_of_then _ (constant c.0) h in
    let k = there_of_both _ (constant a.0) (constant b.0) g.2 in
    ap (λ (u : Bytes). u ++ (codes " ? " ++ (spaced_words a.0 ++ (codes " : " ++ spaced_words b.0)))) (c.1 (subst IsThere (sym g.1) tt))
    ∙ ap₂ (λ (v w : Bytes). raw_words c.0 ++ (codes " ? " ++ (v ++ (codes " : " ++ w)))) (a.1 k.0) (b.1 k.1)
constant_layered (RawExpr-F.Cast t a) h = ap (λ (w : Bytes). codes "(" ++ (int_words t ++ (codes ")" ++ w))) (a.1 (there_of_map _ (constant a.0) h))
constant_layered (RawExpr-F.Index a i) h = absurd h
constant_layered (RawExpr-F.Member a m) h = absurd h
constant_layered (RawExpr-F.Arrow a m) h = absurd h
constant_layered (RawExpr-F.Paren a) h = ap (λ (w : Bytes). codes "(" ++ (w ++ codes ")")) (a.1 h)

pub constant_spaced : (a : RawExpr) → ConstantSame a
constant_spaced = of_every_expr ConstantSame (λ y h.
    let l = expr_layer ConstantSame y in
    ap (λ (x : Spaced). x.words) (fold-roll-RawExpr Spaced spaced_step l)
    ∙ constant_layered y (subst IsThere (fold-roll-RawExpr (Option Constant) constant_step l) h)
    ∙ sym (fold-roll-RawExpr Bytes raw_words_step l))

-- ---- expressions in which no rule is broken

module _ (raw : RawProgram) (scope : Scope) (complete : (s : ℕ) (name : Bytes) → IsTypedIf raw (member_of raw s name)) (typed : (name : Bytes) → HasTypeIf (meaning_in scope name)) where
  abbrev operand_layer : RawExpr-F RawExpr → RawExpr-F (Option Operand)
  operand_layer = map-RawExpr RawExpr (Option Operand) (operand raw scope)

  -- what the flags of an expression say of it as an operand
  record Flagged (s : Spaced) (o : Option Operand) : Type 0 where
    address : s.is_address ≡ true → (x : Operand) → o ≡ Some x → x.is_place ≡ false
    constant : s.is_constant ≡ true → (x : Operand) → o ≡ Some x → (struct_of x.shape ≡ None) × (pointed x ≡ None)

  other_flags : {w : Bytes} {o : Option Operand} → Flagged (record { words = w; is_constant = false; is_address = false }) o
  other_flags = record { address = λ h. false_true h; constant = λ h. false_true h }

  value_place : (o : Option ExprType) (x : Operand) → option_map a_value o ≡ Some x → x.is_place ≡ false
  value_place o x h = let g = map_there a_value o x h in ap (λ (y : Operand). y.is_place) (sym g.same)

  constant_form : (text : Bytes) (x : Operand) → constant_operand text (literal_type text) ≡ x → (struct_of x.shape ≡ None) × (pointed x ≡ None)
  constant_form text x h = subst (λ (y : Operand). (struct_of y.shape ≡ None) × (pointed y ≡ None)) h (refl, refl)

  flags_layered : (l : RawExpr-F RawExpr) → Flagged (spaced_step (spaced_layer l)) (operand_step raw scope (operand_layer l))
  flags_layered (RawExpr-F.Constant text) = record { address = λ h. false_true h; constant = λ h x is. constant_form text x (some_same is) }
  flags_layered RawExpr-F.Null = other_flags
  flags_layered RawExpr-F.Eof = other_flags
  flags_layered (RawExpr-F.Variable name) = other_flags
  flags_layered (RawExpr-F.Unary op a) = other_flags
  flags_layered (RawExpr-F.Deref a) = other_flags
  flags_layered (RawExpr-F.AddressOf a) = record { address = λ h x is. value_place (option_and_then address_result (operand raw scope a)) x is; constant = λ h. false_true h }
  flags_layered (RawExpr-F.Binary op a b) = other_flags
  flags_layered (RawExpr-F.AndAlso a b) = other_flags
  flags_layered (RawExpr-F.OrElse a b) = other_flags
  flags_layered (RawExpr-F.Choose c a b) = other_flags
  flags_layered (RawExpr-F.Cast t a) = other_flags
  flags_layered (RawExpr-F.Index a i) = other_flags
  flags_layered (RawExpr-F.Member a m) = other_flags
  flags_layered (RawExpr-F.Arrow a m) = other_flags
  flags_layered (RawExpr-F.Paren a) = other_flags

  abbrev HasFlags : RawExpr → Type 0
  HasFlags a = Flagged (spaced a) (operand raw scope a)

  flagged : (a : RawExpr) → HasFlags a
  flagged = of_every_expr HasFlags (λ y.
      let l = expr_layer HasFlags y in
      subst (λ (s : Spaced). Flagged s (operand raw scope (roll-RawExpr l))) (sym (fold-roll-RawExpr Spaced spaced_step l))
      (subst (Flagged (spaced_step (spaced_layer l))) (sym (fold-roll-RawExpr (Option Operand) (operand_step raw scope) l)) (flags_layered l)))

  no_address : (o : Option Operand) (x : Operand) → o ≡ Some x → x.is_place ≡ false → holds_of is_no_address o ≡ false → ⊥
  no_address o x is place h = place_of x place (sym (ap (holds_of is_no_address) is) ∙ h)
    where
      place_of : (x : Operand) → x.is_place ≡ false → is_no_address x ≡ false → ⊥
      place_of x place h = true≢false (sym (ap (λ (b : Bool). b_or b x) place) ∙ h)
        where
          b_or : Bool → Operand → Bool
          b_or b x = is_no_address (record x { is_place = b })

  -- an operand whose address is taken is no address
  joined_address : (a : RawExpr) → AreClean raw scope a → has_no_address (RawExpr-F.AddressOf (operand raw scope a)) ≡ false → (spaced a).is_address ≡ false
  joined_address a keeps h = false_from_ne_true (spaced a).is_address (λ is.
      let v = value_there (operand raw scope a) (operand_there raw scope complete typed a keeps) in
      no_address (operand raw scope a) v.0 v.1 ((flagged a).address is v.0 v.1) h)

  -- a selected object is no constant
  joined_member : (a : RawExpr) (m : Bytes) → AreClean raw scope a → has_bad_operand scope (RawExpr-F.Member (operand raw scope a) m) ≡ false → (spaced a).is_constant ≡ false
  joined_member a m keeps h = false_from_ne_true (spaced a).is_constant (λ is.
      let v = value_there (operand raw scope a) (operand_there raw scope complete typed a keeps) in
      true≢false (sym (ap (λ (o : Option Operand). fails (option_map (λ (x : Operand). struct_of x.shape) o)) v.1 ∙ ap (λ (o : Option ℕ). fails (Some o)) ((flagged a).constant is v.0 v.1).0) ∙ h))

  joined_arrow : (a : RawExpr) (m : Bytes) → AreClean raw scope a → has_bad_operand scope (RawExpr-F.Arrow (operand raw scope a) m) ≡ false → (spaced a).is_constant ≡ false
  joined_arrow a m keeps h = false_from_ne_true (spaced a).is_constant (λ is.
      let v = value_there (operand raw scope a) (operand_there raw scope complete typed a keeps) in
      true≢false (sym (ap (λ (o : Option Operand). fails (option_map (λ (x : Operand). option_and_then struct_of (pointed x)) o)) v.1 ∙ ap (λ (o : Option ExprType). fails (Some (option_and_then struct_of o))) ((flagged a).constant is v.0 v.1).1) ∙ h))

  abbrev WordsSame : RawExpr → Type 0
  WordsSame a = AreClean raw scope a → spaced_words a ≡ raw_words a

  words_layered : (y : ExprParts WordsSame) → ((m : RawExpr) → Contains (operands_of (expr_layer WordsSame y)) m → AreClean raw scope m) → IsClean raw scope (operand_layer (expr_layer WordsSame y))
      → (spaced_step (spaced_layer (expr_layer WordsSame y))).words ≡ raw_words_step (words_layer (expr_layer WordsSame y))
  words_layered (RawExpr-F.Constant text) keeps clean = refl
  words_layered RawExpr-F.Null keeps clean = refl
  words_layered RawExpr-F.Eof keeps clean = refl
  words_layered (RawExpr-F.Variable name) keeps clean = refl
  words_layered (RawExpr-F.Unary op a) keeps clean = ap (signed op) (a.1 (keeps a.0 (contains_first a.0 [])))
  words_layered (RawExpr-F.Deref a) keeps clean = ap (λ (w : Bytes). codes "*" ++ w) (a.1 (keeps a.0 (contains_first a.0 [])))
  words_layered (RawExpr-F.AddressOf a) keeps clean =
      let k = keeps a.0 (contains_first a.0 []) in
      ap (λ (w : Bytes). codes "&" ++ w) (no_blank (spaced a.0).is_address (spaced_words a.0) (joined_address a.0 k clean.address) ∙ a.1 k)
  words_layered (RawExpr-F.Binary op a b) keeps clean =
      ap₂ (λ (v w : Bytes). v ++ (codes " " ++ (binary_sign op ++ (codes " " ++ w)))) (a.1 (keeps a.0 (contains_first a.0 (b.0 ∷ [])))) (b.1 (keeps b.0 (contains_later a.0 b.0 (b.0 ∷ []) (contains_first b.0 []))))
  words_layered (RawExpr-F.AndAlso a b) keeps clean =
      ap₂ (λ (v w : Bytes). v ++ (codes " && " ++ w)) (a.1 (keeps a.0 (contains_first a.0 (b.0 ∷ [])))) (b.1 (keeps b.0 (contains_later a.0 b.0 (b.0 ∷ []) (contains_first b.0 []))))
  words_layered (RawExpr-F.OrElse a b) keeps clean =
      ap₂ (λ (v w : Bytes). v ++ (codes " || " ++ w)) (a.1 (keeps a.0 (contains_first a.0 (b.0 ∷ [])))) (b.1 (keeps b.0 (contains_later a.0 b.0 (b.0 ∷ []) (contains_first b.0 []))))
  words_layered (RawExpr-F.Choose c a b) keeps clean =
      ap (λ (u : Bytes). u ++ (codes " ? " ++ (spaced_words a.0 ++ (codes " : " ++ spaced_words b.0)))) (c.1 (keeps c.0 (contains_first c.0 (a.0 ∷ b.0 ∷ []))))
      ∙ ap₂ (λ (v w : Bytes). raw_words c.0 ++ (codes " ? " ++ (v ++ (codes " : " ++ w)))) (a.1 (keeps a.0 (contains_later c.0 a.0 (a.0 ∷ b.0 ∷ []) (contains_first a.0 (b.0 ∷ [])))))
      (b.1 (keeps b.0 (contains_later c.0 b.0 (a.0 ∷ b.0 ∷ []) (contains_later a.0 b.0 (b.0 ∷ []) (contains_first b.0 [])))))
  words_layered (RawExpr-F.Cast t a) keeps clean = ap (λ (w : Bytes). codes "(" ++ (int_words t ++ (codes ")" ++ w))) (a.1 (keeps a.0 (contains_first a.0 [])))
  words_layered (RawExpr-F.Index a b) keeps clean =
      ap₂ (λ (v w : Bytes). v ++ (codes "[" ++ (w ++ codes "]"))) (a.1 (keeps a.0 (contains_first a.0 (b.0 ∷ [])))) (b.1 (keeps b.0 (contains_later a.0 b.0 (b.0 ∷ []) (contains_first b.0 []))))
  words_layered (RawExpr-F.Member a m) keeps clean =
      let k = keeps a.0 (contains_first a.0 []) in
      ap₂ (λ (v w : Bytes). v ++ w) (a.1 k) (no_blank (spaced a.0).is_constant (codes "." ++ m) (joined_member a.0 m k clean.operands))
  words_layered (RawExpr-F.Arrow a m) keeps clean =
      let k = keeps a.0 (contains_first a.0 []) in
      ap₂ (λ (v w : Bytes). v ++ w) (a.1 k) (no_blank (spaced a.0).is_constant (codes "->" ++ m) (joined_arrow a.0 m k clean.operands))
  words_layered (RawExpr-F.Paren a) keeps clean = ap (λ (w : Bytes). codes "(" ++ (w ++ codes ")")) (a.1 (keeps a.0 (contains_first a.0 [])))

  pub words_spaced : (a : RawExpr) → WordsSame a
  words_spaced = of_every_expr WordsSame (λ y keeps.
      let l = expr_layer WordsSame y in
      ap (λ (x : Spaced). x.words) (fold-roll-RawExpr Spaced spaced_step l)
      ∙ words_layered y (operands_keep raw scope l keeps) (layer_clean raw scope l keeps)
      ∙ sym (fold-roll-RawExpr Bytes raw_words_step l))

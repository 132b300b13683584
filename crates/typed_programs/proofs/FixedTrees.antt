-- A constant expression of a text, and NULL, has a tree in which no variable is named and no place is.
use Rattle.std.proofs.Common.{◌≡◌, ℤ, List, [], ◌∷◌, map, Bool, true, false, ◌&&◌, ◌⊎◌, inl, inr, Option, Some, None, refl, sym, ap, ◌∙◌, subst}
use Rattle.std.specs.Prelude.{option_and_then, Contains}
use Rattle.std.specs.List.{list_all}
use Rattle.std.proofs.lemmas.Bool.{false≢true, and_from}
use Rattle.c_arith.specs.declared.int_type.IntType.{IntType}
use Rattle.c_tree.specs.declared.expr.Expr.{Expr, map-Expr, roll-Expr, fold-roll-Expr}
use Rattle.c_tree.specs.declared.expr.Expr.TheOpen.{Expr-F}
use Rattle.c_tree.specs.declared.expr.Expr.TheVariants as e
use Rattle.c_tree.specs.declared.raw.expr.RawExpr.{RawExpr, map-RawExpr, roll-RawExpr, fold-roll-RawExpr}
use Rattle.c_tree.specs.declared.raw.expr.RawExpr.TheOpen.{RawExpr-F}
use Rattle.c_tree.specs.declared.raw.program.RawProgram.{RawProgram}
use Rattle.c_tree.proofs.RawTrees.{ExprParts, expr_layer, of_every_expr}
use Rattle.c_language.specs.ConstantEvaluation.{literal_type, literal_value, both, constant, constant_step, value_of_constant, binary_constant, and_constant, or_constant, chosen_constant, unary_constant, cast_constant}
use Rattle.c_language.specs.Options.{IsThere}
use Rattle.c_language.specs.ProgramOf.{Told, told_step, told_of, expr_of, exprs_of}
use Rattle.c_language.specs.Scopes.{Scope}
use Rattle.c_language.specs.Uses.{null_step, is_null_name}
use Rattle.c_language.specs.declared.constant.Constant.{Constant}
use Rattle.c_language.proofs.Options.{some_same, map_there, then_there, both_there, there_of_map, there_of_both, there_of_three, more_there}
use Rattle.dep_model.proofs.Membership.{IsIn}
use Rattle.typed_programs.specs.FixedValues.{fixed_step, is_fixed}

-- ---- forms

fixed_at : (x : Expr) (y : Expr-F Expr) → x ≡ roll-Expr y → is_fixed x ≡ fixed_step (map-Expr Expr Bool is_fixed y)
fixed_at x y is = ap is_fixed is ∙ fold-roll-Expr Bool fixed_step y

-- ---- texts

module _ (raw : RawProgram) (scope : Scope) where
  -- constant expressions, and NULL within parentheses or not
  abbrev IsConstant : Option Constant → Bool → Type 0
  IsConstant o b = IsThere o ⊎ (b ≡ true)

  abbrev IsSound : RawExpr → Type 0
  IsSound a = IsConstant (constant a) (is_null_name a) → (x : Expr) → (told_of raw scope a).tree ≡ Some x → is_fixed x ≡ true

  abbrev Layer : Type 0
  Layer = ExprParts IsSound

  abbrev layer_of : Layer → RawExpr-F RawExpr
  layer_of = expr_layer IsSound

  -- no operator but parentheses makes NULL
  only_constant : {A : Type 0} → A ⊎ (false ≡ true) → A
  only_constant (inl h) = h
  only_constant (inr h) = absurd (false≢true h)

  none_fixed : {A : Type 0} → ⊥ ⊎ (false ≡ true) → A
  none_fixed (inl h) = absurd h
  none_fixed (inr h) = absurd (false≢true h)

  made : (x z : Expr) (y : Expr-F Expr) → x ≡ z → roll-Expr y ≡ x → fixed_step (map-Expr Expr Bool is_fixed y) ≡ true → is_fixed z ≡ true
  made x z y same rolls h = ap is_fixed (sym same) ∙ (fixed_at x y (sym rolls) ∙ h)

  layer_sound : (y : Layer) → IsConstant (constant_step (map-RawExpr RawExpr (Option Constant) constant (layer_of y))) (null_step (map-RawExpr RawExpr Bool is_null_name (layer_of y)))
      → (x : Expr) → (told_step raw scope (map-RawExpr RawExpr Told (told_of raw scope) (layer_of y))).tree ≡ Some x → is_fixed x ≡ true
  layer_sound (RawExpr-F.Constant text) h x is = made _ x (Expr-F.Constant text (literal_type text) (literal_value text)) (some_same is) (e.rolls-Constant text (literal_type text) (literal_value text)) refl
  layer_sound RawExpr-F.Null h x is = made _ x Expr-F.Null (some_same is) e.rolls-Null refl
  layer_sound RawExpr-F.Eof h x is = made _ x Expr-F.Eof (some_same is) e.rolls-Eof refl
  layer_sound (RawExpr-F.Variable name) h x is = none_fixed h
  layer_sound (RawExpr-F.Unary op a) h x is =
      let k = there_of_map (unary_constant op) (constant a.0) (only_constant h) in
      let m = map_there (e.Unary op) (told_of raw scope a.0).tree x is in
      made _ x (Expr-F.Unary op m.value) m.same (e.rolls-Unary op m.value) (a.1 (inl k) m.value m.there)
  layer_sound (RawExpr-F.Deref a) h x is = none_fixed h
  layer_sound (RawExpr-F.AddressOf a) h x is = none_fixed h
  layer_sound (RawExpr-F.Binary op a b) h x is =
      let k = there_of_both (binary_constant op) (constant a.0) (constant b.0) (only_constant h) in
      let m = both_there (e.Binary op) (told_of raw scope a.0).tree (told_of raw scope b.0).tree x is in
      made _ x (Expr-F.Binary op m.left m.right) m.same (e.rolls-Binary op m.left m.right) (and_from (is_fixed m.left) (is_fixed m.right) (a.1 (inl k.0) m.left m.left_there) (b.1 (inl k.1) m.right m.right_there))
  layer_sound (RawExpr-F.AndAlso a b) h x is =
      let k = there_of_both and_constant (constant a.0) (constant b.0) (only_constant h) in
      let m = both_there e.AndAlso (told_of raw scope a.0).tree (told_of raw scope b.0).tree x is in
      made _ x (Expr-F.AndAlso m.left m.right) m.same (e.rolls-AndAlso m.left m.right) (and_from (is_fixed m.left) (is_fixed m.right) (a.1 (inl k.0) m.left m.left_there) (b.1 (inl k.1) m.right m.right_there))
  layer_sound (RawExpr-F.OrElse a b) h x is =
      let k = there_of_both or_constant (constant a.0) (constant b.0) (only_constant h) in
      let m = both_there e.OrElse (told_of raw scope a.0).tree (told_of raw scope b.0).tree x is in
      made _ x (Expr-F.OrElse m.left m.right) m.same (e.rolls-OrElse m.left m.right) (and_from (is_fixed m.left) (is_fixed m.right) (a.1 (inl k.0) m.left m.left_there) (b.1 (inl k.1) m.right m.right_there))
  layer_sound (RawExpr-F.Choose c a b) h x is =
      let k = there_of_three chosen_constant (constant c.0) (constant a.0) (constant b.0) (only_constant h) in
      let t = then_there (λ (z : Expr). both (e.Choose z) (told_of raw scope a.0).tree (told_of raw scope b.0).tree) (told_of raw scope c.0).tree x is in
      let m = both_there (e.Choose t.value) (told_of raw scope a.0).tree (told_of raw scope b.0).tree x t.same in
      made _ x (Expr-F.Choose t.value m.left m.right) m.same (e.rolls-Choose t.value m.left m.right)
      (and_from (is_fixed t.value) (is_fixed m.left && is_fixed m.right) (c.1 (inl k.0) t.value t.there) (and_from (is_fixed m.left) (is_fixed m.right) (a.1 (inl k.1) m.left m.left_there) (b.1 (inl k.2) m.right m.right_there)))
  layer_sound (RawExpr-F.Cast t a) h x is =
      let k = there_of_map (cast_constant t) (constant a.0) (only_constant h) in
      let m = map_there (e.Cast t) (told_of raw scope a.0).tree x is in
      made _ x (Expr-F.Cast t m.value) m.same (e.rolls-Cast t m.value) (a.1 (inl k) m.value m.there)
  layer_sound (RawExpr-F.Index a i) h x is = none_fixed h
  layer_sound (RawExpr-F.Member a m) h x is = none_fixed h
  layer_sound (RawExpr-F.Arrow a m) h x is = none_fixed h
  layer_sound (RawExpr-F.Paren a) h x is =
      let m = map_there e.Paren (told_of raw scope a.0).tree x is in
      made _ x (Expr-F.Paren m.value) m.same (e.rolls-Paren m.value) (a.1 h m.value m.there)

  rolled_sound : (y : Layer) → IsSound (roll-RawExpr (layer_of y))
  rolled_sound y h x is =
      let fixed = subst (λ o. IsConstant o (is_null_name (roll-RawExpr (layer_of y)))) (fold-roll-RawExpr (Option Constant) constant_step (layer_of y)) h in
      layer_sound y (subst (λ b. IsConstant (constant_step (map-RawExpr RawExpr (Option Constant) constant (layer_of y))) b) (fold-roll-RawExpr Bool null_step (layer_of y)) fixed) x
      (ap (λ (t : Told). t.tree) (sym (fold-roll-RawExpr Told (told_step raw scope) (layer_of y))) ∙ is)

  sound : (a : RawExpr) → IsSound a
  sound = of_every_expr IsSound rolled_sound

  value_then : (o : Option Constant) → IsThere (option_and_then (λ (x : Constant). x.value) o) → IsThere o
  value_then None h = h
  value_then (Some x) h = tt

  -- what is no constant expression and not NULL breaks a rule
  abbrev pub Unbroken : RawExpr → Type 0
  Unbroken a = value_of_constant a ≡ None → is_null_name a ≡ false → ⊥

  -- the tree of an expression that breaks none
  pub tree_fixed : (a : RawExpr) → Unbroken a → (x : Expr) → expr_of raw scope a ≡ Some x → is_fixed x ≡ true
  tree_fixed a kept x is = by_value (value_of_constant a) refl (is_null_name a) refl
    where
      by_value : (o : Option ℤ) → value_of_constant a ≡ o → (b : Bool) → is_null_name a ≡ b → is_fixed x ≡ true
      by_value (Some z) there b null = sound a (inl (value_then (constant a) (subst IsThere (sym there) tt))) x is
      by_value None there true null = sound a (inr null) x is
      by_value None there false null = absurd (kept there null)

  pub trees_fixed : (as_ : List RawExpr) (xs : List Expr) → ((a : RawExpr) → IsIn as_ a → Unbroken a) → exprs_of raw scope as_ ≡ Some xs → list_all is_fixed xs ≡ true
  trees_fixed [] xs kept is = subst (λ ys. list_all is_fixed ys ≡ true) (some_same is) refl
  trees_fixed (a ∷ as_) xs kept is =
      let m = more_there (expr_of raw scope a) (map (expr_of raw scope) as_) xs is in
      subst (λ ys. list_all is_fixed ys ≡ true) m.same
      (and_from (is_fixed m.first) (list_all is_fixed m.rest) (tree_fixed a (kept a (inl refl)) m.first m.first_there) (trees_fixed as_ m.rest (λ z i. kept z (inr i)) m.rest_there))

-- A constant expression has its tree in every scope.
use Rattle.std.proofs.Common.{Option, Some, None, sym, subst}
use Rattle.std.specs.Prelude.{option_and_then}
use Rattle.c_tree.specs.declared.expr.Expr.TheVariants as e
use Rattle.c_tree.specs.declared.raw.expr.RawExpr.{RawExpr, map-RawExpr, ind-RawExpr, roll-RawExpr, fold-roll-RawExpr}
use Rattle.c_tree.specs.declared.raw.expr.RawExpr.TheOpen.{RawExpr-F}
use Rattle.c_tree.specs.declared.raw.program.RawProgram.{RawProgram}
use Rattle.c_tree.proofs.RawTrees.{expr_layer, ExprParts}
use Rattle.c_language.specs.ConstantEvaluation.{constant, constant_step, value_of_constant, unary_constant, binary_constant, and_constant, or_constant, chosen_constant, cast_constant}
use Rattle.c_language.specs.Scopes.{Scope}
use Rattle.c_language.specs.ProgramOf.{Told, told_step, told_of, expr_of}
use Rattle.c_language.specs.declared.constant.Constant.{Constant}
use Rattle.c_language.proofs.Options.{there_map, there_of_map, there_of_both, there_of_three}
use Rattle.c_types_base.proofs.OptionLemmas.{there_then, there_both}
use Rattle.c_language.specs.Options.{IsThere}

then_of : {A B : Type 0} (f : A → Option B) (o : Option A) → IsThere (option_and_then f o) → IsThere o
then_of f None h = h
then_of f (Some x) h = tt

module _ (raw : RawProgram) (scope : Scope) where
  abbrev IsSound : RawExpr → Type 0
  IsSound a = IsThere (constant a) → IsThere (told_of raw scope a).tree

  abbrev Layer : Type 0
  Layer = ExprParts IsSound

  abbrev layer_of : Layer → RawExpr-F RawExpr
  layer_of = expr_layer IsSound

  step : (y : Layer) → IsThere (constant_step (map-RawExpr RawExpr (Option Constant) constant (layer_of y)))
      → IsThere (told_step raw scope (map-RawExpr RawExpr Told (told_of raw scope) (layer_of y))).tree
  step (RawExpr-F.Constant text) h = tt
  step RawExpr-F.Null h = absurd h
  step RawExpr-F.Eof h = tt
  step (RawExpr-F.Variable name) h = absurd h
  step (RawExpr-F.Unary op a) h = there_map (e.Unary op) (told_of raw scope a.0).tree (a.1 (there_of_map (unary_constant op) (constant a.0) h))
  step (RawExpr-F.Deref a) h = absurd h
  step (RawExpr-F.AddressOf a) h = absurd h
  step (RawExpr-F.Binary op a b) h =
      let k = there_of_both (binary_constant op) (constant a.0) (constant b.0) h in
      there_both (e.Binary op) (told_of raw scope a.0).tree (told_of raw scope b.0).tree (a.1 k.0) (b.1 k.1)
  step (RawExpr-F.AndAlso a b) h =
      let k = there_of_both and_constant (constant a.0) (constant b.0) h in there_both e.AndAlso (told_of raw scope a.0).tree (told_of raw scope b.0).tree (a.1 k.0) (b.1 k.1)
  step (RawExpr-F.OrElse a b) h =
      let k = there_of_both or_constant (constant a.0) (constant b.0) h in there_both e.OrElse (told_of raw scope a.0).tree (told_of raw scope b.0).tree (a.1 k.0) (b.1 k.1)
  step (RawExpr-F.Choose c a b) h =
      let k = there_of_three chosen_constant (constant c.0) (constant a.0) (constant b.0) h in
      there_then _ (told_of raw scope c.0).tree (c.1 k.0) (λ x is. there_both (e.Choose x) (told_of raw scope a.0).tree (told_of raw scope b.0).tree (a.1 k.1) (b.1 k.2))
  step (RawExpr-F.Cast t a) h = there_map (e.Cast t) (told_of raw scope a.0).tree (a.1 (there_of_map (cast_constant t) (constant a.0) h))
  step (RawExpr-F.Index a i) h = absurd h
  step (RawExpr-F.Member a m) h = absurd h
  step (RawExpr-F.Arrow a m) h = absurd h
  step (RawExpr-F.Paren a) h = there_map e.Paren (told_of raw scope a.0).tree (a.1 h)

  sound_roll : (y : Layer) → IsSound (roll-RawExpr (layer_of y))
  sound_roll y h =
      subst (λ (t : Told). IsThere t.tree) (sym (fold-roll-RawExpr Told (told_step raw scope) (layer_of y)))
      (step y (subst IsThere (fold-roll-RawExpr (Option Constant) constant_step (layer_of y)) h))

  sound : (a : RawExpr) → IsSound a
  sound = ind-RawExpr IsSound (λ x y is. subst (λ z. IsSound (roll-RawExpr z)) is (sound_roll y))

  pub constant_tree : (a : RawExpr) → IsThere (value_of_constant a) → IsThere (expr_of raw scope a)
  constant_tree a h = sound a (then_of (λ (x : Constant). x.value) (constant a) h)

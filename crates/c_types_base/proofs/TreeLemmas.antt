-- Each form of expression in the tree, as equations.
use Rattle.std.proofs.Common.{◌≡◌, ℕ, Option, Some, option_map, option_and_then, Result, Ok, Err, refl, sym, ap, subst, ◌∙◌}
use Rattle.c_language.proofs.LayerForms.{expr_of-Variable}
use Rattle.c_arith.specs.declared.int_type.IntType.{IntType}
use Rattle.c_arith.specs.declared.operators.UnaryOp.{UnaryOp}
use Rattle.c_arith.specs.declared.operators.BinaryOp.{BinaryOp}
use Rattle.c_tree.specs.declared.expr.Expr.{Expr}
use Rattle.c_tree.specs.declared.expr.Expr.TheVariants as tree
use Rattle.c_tree.specs.declared.raw.expr.RawExpr.{RawExpr, map-RawExpr, ind-RawExpr, roll-RawExpr, fold-roll-RawExpr}
use Rattle.c_tree.specs.declared.raw.expr.RawExpr.TheOpen.{RawExpr-F}
use Rattle.c_tree.specs.declared.raw.expr.RawExpr.TheVariants as e
use Rattle.c_tree.specs.declared.raw.program.RawProgram.{RawProgram}
use Rattle.c_tree.proofs.RawTrees.{expr_layer, ExprParts}
use Rattle.c_language.specs.Words.{Bytes}
use Rattle.c_language.specs.ConstantEvaluation.{literal_type, literal_value, both}
use Rattle.c_language.specs.Scopes.{Scope}
use Rattle.c_language.specs.ExprTypes.{operand, operand_step}
use Rattle.c_language.specs.ProgramOf.{Told, told_step, told_of, expr_of, of_operand, of_pointed}
use Rattle.c_language.specs.declared.expr_type.Operand.{Operand}
use Rattle.c_types_base.specs.Judging.{judged}
use Rattle.c_types_base.proofs.JudgingLaws.{Told as ToldBy, judged_truly}

module _ (raw : RawProgram) (scope : Scope) where
  abbrev operand_in : Told → Option Operand
  operand_in t = t.operand

  -- ---- what is told of an expression is what it is as an operand

  step-operand : (layer : RawExpr-F Told) → (told_step raw scope layer).operand ≡ operand_step raw scope (map-RawExpr Told (Option Operand) operand_in layer)
  step-operand (RawExpr-F.Constant text) = refl
  step-operand RawExpr-F.Null = refl
  step-operand RawExpr-F.Eof = refl
  step-operand (RawExpr-F.Variable name) = refl
  step-operand (RawExpr-F.Unary op a) = refl
  step-operand (RawExpr-F.Deref a) = refl
  step-operand (RawExpr-F.AddressOf a) = refl
  step-operand (RawExpr-F.Binary op a b) = refl
  step-operand (RawExpr-F.AndAlso a b) = refl
  step-operand (RawExpr-F.OrElse a b) = refl
  step-operand (RawExpr-F.Choose c a b) = refl
  step-operand (RawExpr-F.Cast t a) = refl
  step-operand (RawExpr-F.Index a i) = refl
  step-operand (RawExpr-F.Member a m) = refl
  step-operand (RawExpr-F.Arrow a m) = refl
  step-operand (RawExpr-F.Paren a) = refl

  abbrev IsTold : RawExpr → Type 0
  IsTold a = (told_of raw scope a).operand ≡ operand raw scope a

  abbrev layer_of : ExprParts IsTold → RawExpr-F RawExpr
  layer_of = expr_layer IsTold

  layer-operand : (y : ExprParts IsTold)
      → map-RawExpr Told (Option Operand) operand_in (map-RawExpr RawExpr Told (told_of raw scope) (layer_of y)) ≡ map-RawExpr RawExpr (Option Operand) (operand raw scope) (layer_of y)
  layer-operand (RawExpr-F.Constant text) = refl
  layer-operand RawExpr-F.Null = refl
  layer-operand RawExpr-F.Eof = refl
  layer-operand (RawExpr-F.Variable name) = refl
  layer-operand (RawExpr-F.Unary op a) = rw a.1 refl
  layer-operand (RawExpr-F.Deref a) = rw a.1 refl
  layer-operand (RawExpr-F.AddressOf a) = rw a.1 refl
  layer-operand (RawExpr-F.Binary op a b) = rw (a.1, b.1) refl
  layer-operand (RawExpr-F.AndAlso a b) = rw (a.1, b.1) refl
  layer-operand (RawExpr-F.OrElse a b) = rw (a.1, b.1) refl
  layer-operand (RawExpr-F.Choose c a b) = rw (c.1, a.1, b.1) refl
  layer-operand (RawExpr-F.Cast t a) = rw a.1 refl
  layer-operand (RawExpr-F.Index a i) = rw (a.1, i.1) refl
  layer-operand (RawExpr-F.Member a m) = rw a.1 refl
  layer-operand (RawExpr-F.Arrow a m) = rw a.1 refl
  layer-operand (RawExpr-F.Paren a) = rw a.1 refl

  pub told-operand : (a : RawExpr) → (told_of raw scope a).operand ≡ operand raw scope a
  told-operand =
      ind-RawExpr IsTold (λ x y is. subst (λ z. IsTold (roll-RawExpr z)) is
      (ap operand_in (fold-roll-RawExpr Told (told_step raw scope) (layer_of y)) ∙ step-operand (map-RawExpr RawExpr Told (told_of raw scope) (layer_of y))
      ∙ ap (operand_step raw scope) (layer-operand y) ∙ sym (fold-roll-RawExpr (Option Operand) (operand_step raw scope) (layer_of y))))

  at_judged : (a : RawExpr) (r : Result Operand ℕ) (x : Operand) → ToldBy raw scope a r → r ≡ Ok x → operand raw scope a ≡ Some x
  at_judged a (Ok y) x (is, keeps) h = is ∙ ap Some (same h)
    where
      same : {y : Operand} → ◌≡◌ {A = Result Operand ℕ} (Ok y) (Ok x) → y ≡ x
      same {y} h = ap (λ (r : Result Operand ℕ). or_that r) h
        where
          or_that : Result Operand ℕ → Operand
          or_that (Ok z) = z
          or_that (Err n) = x
  at_judged a (Err n) x is h = absurd (subst (λ (r : Result Operand ℕ). is_fault r) h tt)
    where
      is_fault : Result Operand ℕ → Type 0
      is_fault (Ok z) = ⊥
      is_fault (Err n) = Unit {0}

  pub operand-judged : (a : RawExpr) (x : Operand) → judged raw scope a ≡ Ok x → operand raw scope a ≡ Some x
  operand-judged a x h = at_judged a (judged raw scope a) x (judged_truly raw scope a) h

  -- ---- the tree of each form

  abbrev tree_in : Told → Option Expr
  tree_in t = t.tree

  pub expr_of-Constant : (text : Bytes) → expr_of raw scope (e.Constant text) ≡ Some (tree.Constant text (literal_type text) (literal_value text))
  expr_of-Constant text = ap tree_in (ap (told_of raw scope) (sym (e.rolls-Constant text)) ∙ fold-roll-RawExpr Told (told_step raw scope) (RawExpr-F.Constant text))

  pub expr_of-Null : expr_of raw scope e.Null ≡ Some tree.Null
  expr_of-Null = ap tree_in (ap (told_of raw scope) (sym e.rolls-Null) ∙ fold-roll-RawExpr Told (told_step raw scope) RawExpr-F.Null)

  pub expr_of-Eof : expr_of raw scope e.Eof ≡ Some tree.Eof
  expr_of-Eof = ap tree_in (ap (told_of raw scope) (sym e.rolls-Eof) ∙ fold-roll-RawExpr Told (told_step raw scope) RawExpr-F.Eof)

  pub expr_of-Unary : (op : UnaryOp) (a : RawExpr) → expr_of raw scope (e.Unary op a) ≡ option_map (tree.Unary op) (expr_of raw scope a)
  expr_of-Unary op a = ap tree_in (ap (told_of raw scope) (sym (e.rolls-Unary op a)) ∙ fold-roll-RawExpr Told (told_step raw scope) (RawExpr-F.Unary op a))

  pub expr_of-Deref : (a : RawExpr) → expr_of raw scope (e.Deref a) ≡ option_map tree.Deref (expr_of raw scope a)
  expr_of-Deref a = ap tree_in (ap (told_of raw scope) (sym (e.rolls-Deref a)) ∙ fold-roll-RawExpr Told (told_step raw scope) (RawExpr-F.Deref a))

  pub expr_of-AddressOf : (a : RawExpr) → expr_of raw scope (e.AddressOf a) ≡ option_map tree.AddressOf (expr_of raw scope a)
  expr_of-AddressOf a = ap tree_in (ap (told_of raw scope) (sym (e.rolls-AddressOf a)) ∙ fold-roll-RawExpr Told (told_step raw scope) (RawExpr-F.AddressOf a))

  pub expr_of-Binary : (op : BinaryOp) (a b : RawExpr) → expr_of raw scope (e.Binary op a b) ≡ both (tree.Binary op) (expr_of raw scope a) (expr_of raw scope b)
  expr_of-Binary op a b = ap tree_in (ap (told_of raw scope) (sym (e.rolls-Binary op a b)) ∙ fold-roll-RawExpr Told (told_step raw scope) (RawExpr-F.Binary op a b))

  pub expr_of-AndAlso : (a b : RawExpr) → expr_of raw scope (e.AndAlso a b) ≡ both tree.AndAlso (expr_of raw scope a) (expr_of raw scope b)
  expr_of-AndAlso a b = ap tree_in (ap (told_of raw scope) (sym (e.rolls-AndAlso a b)) ∙ fold-roll-RawExpr Told (told_step raw scope) (RawExpr-F.AndAlso a b))

  pub expr_of-OrElse : (a b : RawExpr) → expr_of raw scope (e.OrElse a b) ≡ both tree.OrElse (expr_of raw scope a) (expr_of raw scope b)
  expr_of-OrElse a b = ap tree_in (ap (told_of raw scope) (sym (e.rolls-OrElse a b)) ∙ fold-roll-RawExpr Told (told_step raw scope) (RawExpr-F.OrElse a b))

  pub expr_of-Choose : (c a b : RawExpr) → expr_of raw scope (e.Choose c a b) ≡ option_and_then (λ (x : Expr). both (tree.Choose x) (expr_of raw scope a) (expr_of raw scope b)) (expr_of raw scope c)
  expr_of-Choose c a b = ap tree_in (ap (told_of raw scope) (sym (e.rolls-Choose c a b)) ∙ fold-roll-RawExpr Told (told_step raw scope) (RawExpr-F.Choose c a b))

  pub expr_of-Cast : (t : IntType) (a : RawExpr) → expr_of raw scope (e.Cast t a) ≡ option_map (tree.Cast t) (expr_of raw scope a)
  expr_of-Cast t a = ap tree_in (ap (told_of raw scope) (sym (e.rolls-Cast t a)) ∙ fold-roll-RawExpr Told (told_step raw scope) (RawExpr-F.Cast t a))

  pub expr_of-Index : (a i : RawExpr) → expr_of raw scope (e.Index a i) ≡ both tree.Index (expr_of raw scope a) (expr_of raw scope i)
  expr_of-Index a i = ap tree_in (ap (told_of raw scope) (sym (e.rolls-Index a i)) ∙ fold-roll-RawExpr Told (told_step raw scope) (RawExpr-F.Index a i))

  pub expr_of-Member : (a : RawExpr) (m : Bytes) → expr_of raw scope (e.Member a m) ≡ option_and_then (λ (x : Expr). option_map (tree.Member x) (of_operand raw m (operand raw scope a))) (expr_of raw scope a)
  expr_of-Member a m =
      ap tree_in (ap (told_of raw scope) (sym (e.rolls-Member a m)) ∙ fold-roll-RawExpr Told (told_step raw scope) (RawExpr-F.Member a m))
      ∙ ap (λ o. option_and_then (λ (x : Expr). option_map (tree.Member x) (of_operand raw m o)) (expr_of raw scope a)) (told-operand a)

  pub expr_of-Arrow : (a : RawExpr) (m : Bytes) → expr_of raw scope (e.Arrow a m) ≡ option_and_then (λ (x : Expr). option_map (tree.Arrow x) (of_pointed raw m (operand raw scope a))) (expr_of raw scope a)
  expr_of-Arrow a m =
      ap tree_in (ap (told_of raw scope) (sym (e.rolls-Arrow a m)) ∙ fold-roll-RawExpr Told (told_step raw scope) (RawExpr-F.Arrow a m))
      ∙ ap (λ o. option_and_then (λ (x : Expr). option_map (tree.Arrow x) (of_pointed raw m o)) (expr_of raw scope a)) (told-operand a)

  pub expr_of-Paren : (a : RawExpr) → expr_of raw scope (e.Paren a) ≡ option_map tree.Paren (expr_of raw scope a)
  expr_of-Paren a = ap tree_in (ap (told_of raw scope) (sym (e.rolls-Paren a)) ∙ fold-roll-RawExpr Told (told_step raw scope) (RawExpr-F.Paren a))

pub ruleset trees_of = (expr_of-Constant, expr_of-Null, expr_of-Eof, expr_of-Variable, expr_of-Unary, expr_of-Deref, expr_of-AddressOf, expr_of-Binary, expr_of-AndAlso, expr_of-OrElse, expr_of-Choose, expr_of-Cast, expr_of-Index, expr_of-Member, expr_of-Arrow, expr_of-Paren)

-- What an expression denotes has the form that it designates, wherever pointers point.
use Rattle.std.proofs.Common.{◌≡◌, Bool, true, false, refl, sym, ap, ap₂, ◌∙◌}
use Rattle.std.specs.Prelude.{if◌then◌else◌}
use Rattle.c_tree.specs.declared.expr.Expr.{Expr, map-Expr, fold-roll-Expr}
use Rattle.c_tree.specs.declared.expr.Expr.TheOpen.{Expr-F}
use Rattle.c_tree.specs.declared.program.Program.{Program}
use Rattle.c_tree.proofs.Trees.{ExprParts, expr_layer, of_every_expr}
use Rattle.dep_model.specs.Designated.{Designated, designated, designated_step}
use Rattle.dep_model.specs.Denoted.{Places, TargetsOf, Denoted, an_object, denoted, denoted_step}

module _ (p : Program) (points : TargetsOf) where
  abbrev den : Expr → Denoted
  den = denoted p points

  abbrev HasForm : Expr → Type 0
  HasForm a = (den a).form ≡ designated p a

  abbrev step : Expr-F Designated → Designated
  step = designated_step p

  -- an element has the form that is given to it, whichever way it is found
  element_form : (b : Bool) (f : Designated) (x y r s : Places) → (if b then an_object p points f x r else an_object p points f y s).form ≡ f
  element_form true f x y r s = refl
  element_form false f x y r s = refl

  layer_form : (y : ExprParts HasForm) → (denoted_step p points (map-Expr Expr Denoted den (expr_layer HasForm y))).form ≡ step (map-Expr Expr Designated (designated p) (expr_layer HasForm y))
  layer_form (Expr-F.Constant t k v) = refl
  layer_form Expr-F.Null = refl
  layer_form Expr-F.Eof = refl
  layer_form (Expr-F.Variable x) = refl
  layer_form (Expr-F.Unary op a) = ap (λ d. step (Expr-F.Unary op d)) a.1
  layer_form (Expr-F.Deref a) = ap (λ d. step (Expr-F.Deref d)) a.1
  layer_form (Expr-F.AddressOf a) = ap (λ d. step (Expr-F.AddressOf d)) a.1
  layer_form (Expr-F.Binary op a b) = ap₂ (λ c d. step (Expr-F.Binary op c d)) a.1 b.1
  layer_form (Expr-F.AndAlso a b) = ap₂ (λ c d. step (Expr-F.AndAlso c d)) a.1 b.1
  layer_form (Expr-F.OrElse a b) = ap₂ (λ c d. step (Expr-F.OrElse c d)) a.1 b.1
  layer_form (Expr-F.Choose c a b) =
      ap (λ d. step (Expr-F.Choose d (den a.0).form (den b.0).form)) c.1 ∙ ap₂ (λ d e. step (Expr-F.Choose (designated p c.0) d e)) a.1 b.1
  layer_form (Expr-F.Cast k a) = ap (λ d. step (Expr-F.Cast k d)) a.1
  layer_form (Expr-F.Index a i) = element_form _ _ _ _ _ _ ∙ ap₂ (λ c d. step (Expr-F.Index c d)) a.1 i.1
  layer_form (Expr-F.Member a m) = ap (λ d. step (Expr-F.Member d m)) a.1
  layer_form (Expr-F.Arrow a m) = ap (λ d. step (Expr-F.Arrow d m)) a.1
  layer_form (Expr-F.Paren a) = ap (λ d. step (Expr-F.Paren d)) a.1

  -- the form of what an expression denotes
  pub form_is : (a : Expr) → HasForm a
  form_is = of_every_expr HasForm (λ y. ap (λ (d : Denoted). d.form) (fold-roll-Expr Denoted (denoted_step p points) (expr_layer HasForm y)) ∙ layer_form y ∙ sym (fold-roll-Expr Designated step (expr_layer HasForm y)))

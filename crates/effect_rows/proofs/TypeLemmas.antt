-- The type of what an expression denotes is the expression's.
use Rattle.std.proofs.Common.{◌≡◌, Bool, true, false, if◌then◌else◌, refl, sym, ap, ap₂, ◌∙◌, subst}
use Rattle.c_tree.specs.declared.expr.Expr.{Expr, map-Expr, ind-Expr, roll-Expr, fold-roll-Expr}
use Rattle.c_tree.specs.declared.expr.Expr.TheOpen.{Expr-F}
use Rattle.c_tree.specs.declared.program.Program.{Program}
use Rattle.c_language.specs.declared.expr_type.ExprType.{ExprType}
use Rattle.c_language.specs.TreeTypes.{tree_type, tree_type_step}
use Rattle.dep_model.specs.Designated.{Designated}
use Rattle.dep_model.specs.Denoted.{TargetsOf, Denoted, denoted, denoted_step}
use Rattle.effect_rows.proofs.NamedLemmas.{element_keeps}

element_type : (b : Bool) (d f : Designated) (t : ExprType) → d.type ≡ t → f.type ≡ t → (if b then d else f).type ≡ t
element_type true d f t x y = x
element_type false d f t x y = y

module _ (p : Program) (points : TargetsOf) where
  abbrev den : Expr → Denoted
  den = denoted p points

  abbrev HasType : Expr → Type 0
  HasType a = (den a).form.type ≡ tree_type p a

  abbrev Known : Type 0
  Known = (a : Expr) × HasType a

  abbrev layer : Expr-F Known → Expr-F Expr
  layer = map-Expr Known Expr (λ a. a.0)

  abbrev step : Expr-F ExprType → ExprType
  step = tree_type_step p

  layer_type : (y : Expr-F Known) → (denoted_step p points (map-Expr Expr Denoted den (layer y))).form.type ≡ step (map-Expr Expr ExprType (tree_type p) (layer y))
  layer_type (Expr-F.Constant t k v) = refl
  layer_type Expr-F.Null = refl
  layer_type Expr-F.Eof = refl
  layer_type (Expr-F.Variable x) = refl
  layer_type (Expr-F.Unary op a) = ap (λ t. step (Expr-F.Unary op t)) a.1
  layer_type (Expr-F.Deref a) = ap (λ t. step (Expr-F.Deref t)) a.1
  layer_type (Expr-F.AddressOf a) = ap (λ t. step (Expr-F.AddressOf t)) a.1
  layer_type (Expr-F.Binary op a b) = ap₂ (λ s t. step (Expr-F.Binary op s t)) a.1 b.1
  layer_type (Expr-F.AndAlso a b) = refl
  layer_type (Expr-F.OrElse a b) = refl
  layer_type (Expr-F.Choose c a b) = ap₂ (λ s t. step (Expr-F.Choose (tree_type p c.0) s t)) a.1 b.1
  layer_type (Expr-F.Cast k a) = refl
  layer_type (Expr-F.Index a i) =
      ap (λ (g : Designated). g.type) (element_keeps p points _ _ _ _ _ _) ∙ element_type _ _ _ _ refl refl ∙ ap (λ t. step (Expr-F.Index t (tree_type p i.0))) a.1
  layer_type (Expr-F.Member a m) = refl
  layer_type (Expr-F.Arrow a m) = refl
  layer_type (Expr-F.Paren a) = a.1

  known_layer : (y : Expr-F Known) → HasType (roll-Expr (layer y))
  known_layer y =
      ap (λ (d : Denoted). d.form.type) (fold-roll-Expr Denoted (denoted_step p points) (layer y)) ∙ layer_type y ∙ sym (fold-roll-Expr ExprType step (layer y))

  pub denoted_type : (a : Expr) → HasType a
  denoted_type = ind-Expr HasType (λ x y is. subst (λ z. HasType (roll-Expr z)) is (known_layer y))

-- What an expression denotes has the form that it designates, and the expression's type.
use Rattle.std.proofs.Common.{◌≡◌, Bool, ◌&&◌, refl, sym, ap, ap₂, ◌∙◌, subst}
use Rattle.c_tree.specs.declared.expr.Expr.{Expr, map-Expr, ind-Expr, roll-Expr, fold-roll-Expr}
use Rattle.c_tree.specs.declared.expr.Expr.TheOpen.{Expr-F}
use Rattle.c_tree.specs.declared.program.Program.{Program}
use Rattle.c_language.specs.ExprTypes.{is_array}
use Rattle.c_language.specs.TreeTypes.{tree_type}
use Rattle.dep_model.specs.Designated.{Designated, designated, designated_step, is_array_place}
use Rattle.dep_model.specs.Denoted.{TargetsOf, Denoted, denoted, denoted_step, no_places}
use Rattle.effect_rows.proofs.NamedLemmas.{element_keeps}
use Rattle.effect_rows.proofs.TypeLemmas.{denoted_type}

module _ (p : Program) (points : TargetsOf) where
  abbrev den : Expr → Denoted
  den = denoted p points

  abbrev HasForm : Expr → Type 0
  HasForm a = (den a).form ≡ designated p a

  abbrev Known : Type 0
  Known = (a : Expr) × HasForm a

  abbrev layer : Expr-F Known → Expr-F Expr
  layer = map-Expr Known Expr (λ a. a.0)

  abbrev step : Expr-F Designated → Designated
  step = designated_step p

  layer_form : (y : Expr-F Known) → (denoted_step p points (map-Expr Expr Denoted den (layer y))).form ≡ step (map-Expr Expr Designated (designated p) (layer y))
  layer_form (Expr-F.Constant t k v) = refl
  layer_form Expr-F.Null = refl
  layer_form Expr-F.Eof = refl
  layer_form (Expr-F.Variable x) = refl
  layer_form (Expr-F.Unary op a) = ap (λ d. step (Expr-F.Unary op d)) a.1
  layer_form (Expr-F.Deref a) = ap (λ d. step (Expr-F.Deref d)) a.1
  layer_form (Expr-F.AddressOf a) = ap (λ d. step (Expr-F.AddressOf d)) a.1
  layer_form (Expr-F.Binary op a b) = ap₂ (λ c d. step (Expr-F.Binary op c d)) a.1 b.1
  layer_form (Expr-F.AndAlso a b) = ap₂ (λ c d. step (Expr-F.AndAlso c d)) a.1 b.1
  layer_form (Expr-F.OrElse a b) = ap₂ (λ c d. step (Expr-F.OrElse c d)) a.1 b.1
  layer_form (Expr-F.Choose c a b) =
      ap (λ d. step (Expr-F.Choose d (den a.0).form (den b.0).form)) c.1 ∙ ap₂ (λ d e. step (Expr-F.Choose (designated p c.0) d e)) a.1 b.1
  layer_form (Expr-F.Cast k a) = ap (λ d. step (Expr-F.Cast k d)) a.1
  layer_form (Expr-F.Index a i) = element_keeps p points _ _ _ _ _ _ ∙ ap₂ (λ c d. step (Expr-F.Index c d)) a.1 i.1
  layer_form (Expr-F.Member a m) = ap (λ d. step (Expr-F.Member d m)) a.1
  layer_form (Expr-F.Arrow a m) = ap (λ d. step (Expr-F.Arrow d m)) a.1
  layer_form (Expr-F.Paren a) = ap (λ d. step (Expr-F.Paren d)) a.1

  known_layer : (y : Expr-F Known) → HasForm (roll-Expr (layer y))
  known_layer y =
      ap (λ (d : Denoted). d.form) (fold-roll-Expr Denoted (denoted_step p points) (layer y)) ∙ layer_form y ∙ sym (fold-roll-Expr Designated step (layer y))

  pub denoted_form : (a : Expr) → HasForm a
  denoted_form = ind-Expr HasForm (λ x y is. subst (λ z. HasForm (roll-Expr z)) is (known_layer y))

module _ (p : Program) where
  pub designated_type : (a : Expr) → (designated p a).type ≡ tree_type p a
  designated_type a = sym (ap (λ (d : Designated). d.type) (denoted_form p (λ l. no_places) a)) ∙ denoted_type p (λ l. no_places) a

  pub is_array_designated : (a : Expr) (b : Bool) → ((points : TargetsOf) → b ≡ ((denoted p points a).form.is_place && is_array (tree_type p a))) → b ≡ is_array_place (designated p a)
  is_array_designated a b h =
      h (λ l. no_places)
      ∙ ap (λ (d : Designated). d.is_place && is_array (tree_type p a)) (denoted_form p (λ l. no_places) a)
      ∙ ap (λ t. (designated p a).is_place && is_array t) (sym (designated_type a))

-- What each form of expression names, and what no object names.
use Rattle.std.proofs.Common.{◌≡◌, ℕ, Bool, true, false, if◌then◌else◌, refl, sym, ap, ◌∙◌, subst}
use Rattle.std.proofs.lemmas.Bool.{false≢true}
use Rattle.c_tree.specs.declared.expr.MemberId.{MemberId}
use Rattle.c_tree.specs.declared.expr.Expr.{Expr, map-Expr, ind-Expr, roll-Expr, fold-roll-Expr}
use Rattle.c_tree.specs.declared.expr.Expr.TheOpen.{Expr-F}
use Rattle.c_tree.specs.declared.expr.Expr.TheVariants as e
use Rattle.c_tree.specs.declared.program.Program.{Program}
use Rattle.dep_model.specs.declared.location.Part.TheVariants as part
use Rattle.dep_model.specs.Designated.{Designated}
use Rattle.dep_model.specs.Denoted.{Places, TargetsOf, Denoted, no_places, whole, part_of, value_points, denoted, denoted_step, an_object}
use Rattle.effect_rows.specs.Named.{named_by, named}
use Rattle.effect_rows.proofs.PlaceLemmas.{part_of-none}
use Rattle.effect_rows.proofs.DenotedForms.{denotes-Variable, denotes-Deref, denotes-AddressOf, denotes-Arrow, denotes-Paren}

module _ (p : Program) (points : TargetsOf) where
  abbrev den : Expr → Denoted
  den = denoted p points

  pub named-Variable : (x : ℕ) → named p points (e.Variable x) ≡ whole x
  named-Variable x = ap named_by (denotes-Variable p points x)

  pub named-Deref : (a : Expr) → named p points (e.Deref a) ≡ value_points p points (den a)
  named-Deref a = ap named_by (denotes-Deref p points a)

  pub named-AddressOf : (a : Expr) → named p points (e.AddressOf a) ≡ (den a).places
  named-AddressOf a = ap named_by (denotes-AddressOf p points a)

  pub named-Arrow : (a : Expr) (m : MemberId) → named p points (e.Arrow a m) ≡ part_of p (part.Member m.index) (value_points p points (den a))
  named-Arrow a m = ap named_by (denotes-Arrow p points a m)

  pub named-Paren : (a : Expr) → named p points (e.Paren a) ≡ named p points a
  named-Paren a = ap named_by (denotes-Paren p points a)

  -- ---- what is no object has no places

  abbrev HasNoPlaces : Denoted → Type 0
  HasNoPlaces d = d.form.is_place ≡ false → d.places ≡ no_places

  abbrev Known : Type 0
  Known = (a : Expr) × HasNoPlaces (den a)

  abbrev layer : Expr-F Known → Expr-F Expr
  layer = map-Expr Known Expr (λ a. a.0)

  pub element_is_place : (b : Bool) (d f : Designated) → d.is_place ≡ true → f.is_place ≡ true → (if b then d else f).is_place ≡ true
  element_is_place true d f x y = x
  element_is_place false d f x y = y

  pub element_keeps : (b : Bool) (f : Designated) (x y r s : Places) → (if b then an_object p points f x r else an_object p points f y s).form ≡ f
  element_keeps true f x y r s = refl
  element_keeps false f x y r s = refl

  layer_none : (y : Expr-F Known) → HasNoPlaces (denoted_step p points (map-Expr Expr Denoted den (layer y)))
  layer_none (Expr-F.Constant t k v) h = refl
  layer_none Expr-F.Null h = refl
  layer_none Expr-F.Eof h = refl
  layer_none (Expr-F.Variable x) h = absurd (false≢true (sym h))
  layer_none (Expr-F.Unary op a) h = refl
  layer_none (Expr-F.Deref a) h = absurd (false≢true (sym h))
  layer_none (Expr-F.AddressOf a) h = refl
  layer_none (Expr-F.Binary op a b) h = refl
  layer_none (Expr-F.AndAlso a b) h = refl
  layer_none (Expr-F.OrElse a b) h = refl
  layer_none (Expr-F.Choose c a b) h = refl
  layer_none (Expr-F.Cast k a) h = refl
  layer_none (Expr-F.Index a i) h =
      absurd (false≢true (sym h ∙ ap (λ (g : Designated). g.is_place) (element_keeps _ _ _ _ _ _) ∙ element_is_place _ _ _ refl refl))
  layer_none (Expr-F.Member a m) h = ap (part_of p (part.Member m.index)) (a.1 h) ∙ part_of-none p points (part.Member m.index)
  layer_none (Expr-F.Arrow a m) h = absurd (false≢true (sym h))
  layer_none (Expr-F.Paren a) h = a.1 h

  rolled_none : (y : Expr-F Expr) → HasNoPlaces (denoted_step p points (map-Expr Expr Denoted den y)) → HasNoPlaces (den (roll-Expr y))
  rolled_none y has = subst HasNoPlaces (sym (fold-roll-Expr Denoted (denoted_step p points) y)) has

  -- where an expression designates no object, it has no places
  pub no_object : (a : Expr) → HasNoPlaces (den a)
  no_object = ind-Expr (λ a. HasNoPlaces (den a)) (λ x y is. subst (λ z. HasNoPlaces (den (roll-Expr z))) is (rolled_none (layer y) (layer_none y)))

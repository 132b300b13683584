-- An expression in which no variable is named takes no address.
use Rattle.std.proofs.Common.{◌≡◌, ℕ, List, [], ◌∷◌, Bool, true, false, ◌&&◌, ◌||◌, refl, sym, ◌∙◌, subst}
use Rattle.std.specs.List.{list_all}
use Rattle.std.proofs.lemmas.Bool.{false≢true, and_parts}
use Rattle.c_tree.specs.declared.expr.Expr.{Expr, map-Expr, roll-Expr, fold-roll-Expr}
use Rattle.c_tree.specs.declared.expr.Expr.TheOpen.{Expr-F}
use Rattle.c_tree.specs.declared.program.Init.{Init}
use Rattle.c_tree.specs.declared.program.Init.TheVariants as init
use Rattle.c_tree.specs.declared.program.Program.{Program}
use Rattle.c_tree.proofs.Trees.{ExprParts, expr_layer, of_every_expr}
use Rattle.c_language.specs.ExprTypes.{is_array}
use Rattle.dep_model.specs.Designated.{Designated, is_root, value_takes, designated, designated_step}
use Rattle.dep_model.specs.DoingEffects.{expr_takes, any_takes, init_takes}
use Rattle.typed_programs.specs.FixedValues.{fixed_step, is_fixed, begins_fixed}

-- a value that is found without an address that is taken
pub record TakesNothing (d : Designated) : Type 0 where
  pub no_place : d.is_place ≡ false
  pub none : (x : ℕ) → d.takes x ≡ false

no_value : (place array root takes : Bool) → place ≡ false → takes ≡ false → (takes || ((place && array) && root)) ≡ false
no_value true array root takes h k = absurd (false≢true (sym h))
no_value false array root true h k = absurd (false≢true (sym k))
no_value false array root false h k = refl

value_none : (d : Designated) → TakesNothing d → (x : ℕ) → value_takes d x ≡ false
value_none d h x = no_value d.is_place (is_array d.type) (is_root d.root x) (d.takes x) h.no_place (h.none x)

neither : (a b : Bool) → a ≡ false → b ≡ false → (a || b) ≡ false
neither true b h k = absurd (false≢true (sym h))
neither false b h k = k

module _ (p : Program) where
  abbrev of : Expr → Designated
  of = designated p

  abbrev Nothing : Expr → Type 0
  Nothing e = is_fixed e ≡ true → TakesNothing (of e)

  abbrev layer : ExprParts Nothing → Expr-F Expr
  layer = expr_layer Nothing

  abbrev step : Expr-F Expr → Designated
  step z = designated_step p (map-Expr Expr Designated of z)

  both : (a b : Expr) → (Nothing a) → (Nothing b) → (is_fixed a && is_fixed b) ≡ true → (x : ℕ) → (value_takes (of a) x || value_takes (of b) x) ≡ false
  both a b h k fixed x =
      let f = and_parts (is_fixed a) (is_fixed b) fixed in
      neither (value_takes (of a) x) (value_takes (of b) x) (value_none (of a) (h f.0) x) (value_none (of b) (k f.1) x)

  layer_none : (y : ExprParts Nothing) → fixed_step (map-Expr Expr Bool is_fixed (layer y)) ≡ true → TakesNothing (step (layer y))
  layer_none (Expr-F.Constant t k v) h = record { no_place = refl; none = λ x. refl }
  layer_none Expr-F.Null h = record { no_place = refl; none = λ x. refl }
  layer_none Expr-F.Eof h = record { no_place = refl; none = λ x. refl }
  layer_none (Expr-F.Variable x) h = absurd (false≢true h)
  layer_none (Expr-F.Unary op a) h = record { no_place = refl; none = value_none (of a.0) (a.1 h) }
  layer_none (Expr-F.Deref a) h = absurd (false≢true h)
  layer_none (Expr-F.AddressOf a) h = absurd (false≢true h)
  layer_none (Expr-F.Binary op a b) h = record { no_place = refl; none = both a.0 b.0 a.1 b.1 h }
  layer_none (Expr-F.AndAlso a b) h = record { no_place = refl; none = both a.0 b.0 a.1 b.1 h }
  layer_none (Expr-F.OrElse a b) h = record { no_place = refl; none = both a.0 b.0 a.1 b.1 h }
  layer_none (Expr-F.Choose c a b) h =
      let f = and_parts (is_fixed c.0) (is_fixed a.0 && is_fixed b.0) h in
      record { no_place = refl; none = λ x. neither (value_takes (of c.0) x) (value_takes (of a.0) x || value_takes (of b.0) x) (value_none (of c.0) (c.1 f.0) x) (both a.0 b.0 a.1 b.1 f.1 x) }
  layer_none (Expr-F.Cast k a) h = record { no_place = refl; none = value_none (of a.0) (a.1 h) }
  layer_none (Expr-F.Index a i) h = absurd (false≢true h)
  layer_none (Expr-F.Member a m) h = absurd (false≢true h)
  layer_none (Expr-F.Arrow a m) h = absurd (false≢true h)
  layer_none (Expr-F.Paren a) h = let n = a.1 h in record { no_place = n.no_place; none = n.none }

  rolled : (y : ExprParts Nothing) → Nothing (roll-Expr (layer y))
  rolled y h =
      subst TakesNothing (sym (fold-roll-Expr Designated (designated_step p) (layer y))) (layer_none y (sym (fold-roll-Expr Bool fixed_step (layer y)) ∙ h))

  fixed_none : (e : Expr) → Nothing e
  fixed_none = of_every_expr Nothing rolled

  pub expr_none : (e : Expr) → is_fixed e ≡ true → (x : ℕ) → expr_takes p e x ≡ false
  expr_none e h = value_none (of e) (fixed_none e h)

  any_none : (es : List Expr) → list_all is_fixed es ≡ true → (x : ℕ) → any_takes p es x ≡ false
  any_none [] h x = refl
  any_none (e ∷ es) h x =
      let k = and_parts (is_fixed e) (list_all is_fixed es) h in neither (expr_takes p e x) (any_takes p es x) (expr_none e k.0 x) (any_none es k.1 x)

  -- what a variable begins with that names none takes no address
  pub init_none : (i : Init) → begins_fixed i ≡ true → (x : ℕ) → init_takes p i x ≡ false
  init_none init.None h x = refl
  init_none (init.One e) h x = expr_none e h x
  init_none (init.Items es) h x = any_none es h x

-- What names variables with numbers below n names them below more.
use Rattle.std.proofs.Common.{◌≡◌, ℕ, ◌<◌, ◌≤◌, Bool, true, ◌&&◌, refl, sym, ◌∙◌, subst, arith, ltb-true, lt-ltb}
use Rattle.std.proofs.lemmas.Bool.{and_parts, and_from}
use Rattle.c_tree.specs.declared.expr.Expr.{Expr, map-Expr, ind-Expr, roll-Expr, fold-roll-Expr}
use Rattle.c_tree.specs.declared.expr.Expr.TheOpen.{Expr-F}
use Rattle.dep_model.specs.NamesBelow.{names_below, names_step}

module _ (n m : ℕ) (le : n ≤ m) where
  abbrev IsBelowWhere : Expr → Type 0
  IsBelowWhere a = names_below n a ≡ true → names_below m a ≡ true

  abbrev KnownBelow : Type 0
  KnownBelow = (a : Expr) × IsBelowWhere a

  abbrev below_layer : Expr-F KnownBelow → Expr-F Expr
  below_layer = map-Expr KnownBelow Expr (λ a. a.0)

  two : (a b : KnownBelow) → (names_below n a.0 && names_below n b.0) ≡ true → (names_below m a.0 && names_below m b.0) ≡ true
  two a b h = let k = and_parts (names_below n a.0) (names_below n b.0) h in and_from _ _ (a.1 k.0) (b.1 k.1)

  layer_below : (y : Expr-F KnownBelow) → names_step n (map-Expr Expr Bool (names_below n) (below_layer y)) ≡ true → names_step m (map-Expr Expr Bool (names_below m) (below_layer y)) ≡ true
  layer_below (Expr-F.Constant t k v) h = refl
  layer_below Expr-F.Null h = refl
  layer_below Expr-F.Eof h = refl
  layer_below (Expr-F.Variable x) h = let lt : x < n = ltb-true x n h in lt-ltb x m (omega (arith, lt, le))
  layer_below (Expr-F.Unary op a) h = a.1 h
  layer_below (Expr-F.Deref a) h = a.1 h
  layer_below (Expr-F.AddressOf a) h = a.1 h
  layer_below (Expr-F.Binary op a b) h = two a b h
  layer_below (Expr-F.AndAlso a b) h = two a b h
  layer_below (Expr-F.OrElse a b) h = two a b h
  layer_below (Expr-F.Choose c a b) h =
      let k = and_parts (names_below n c.0) (names_below n a.0 && names_below n b.0) h in and_from _ _ (c.1 k.0) (two a b k.1)
  layer_below (Expr-F.Cast t a) h = a.1 h
  layer_below (Expr-F.Index a i) h = two a i h
  layer_below (Expr-F.Member a k) h = a.1 h
  layer_below (Expr-F.Arrow a k) h = a.1 h
  layer_below (Expr-F.Paren a) h = a.1 h

  rolled_below : (y : Expr-F Expr) → (names_step n (map-Expr Expr Bool (names_below n) y) ≡ true → names_step m (map-Expr Expr Bool (names_below m) y) ≡ true) → IsBelowWhere (roll-Expr y)
  rolled_below y h is = fold-roll-Expr Bool (names_step m) y ∙ h (sym (fold-roll-Expr Bool (names_step n) y) ∙ is)

  pub names_more : (a : Expr) → IsBelowWhere a
  names_more = ind-Expr IsBelowWhere (λ x y is. subst (λ z. IsBelowWhere (roll-Expr z)) is (rolled_below (below_layer y) (layer_below y)))

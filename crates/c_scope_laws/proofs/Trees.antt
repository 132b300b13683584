-- Inductions over the expressions of texts, layer by layer, by their operands.
use Rattle.std.proofs.Common.{◌≡◌, zero, suc, List, [], ◌∷◌, refl, ap, ap₂, subst, ◌∙◌, arith}
use Rattle.std.specs.Prelude.{Contains}
use Rattle.c_tree.specs.declared.raw.expr.RawExpr.{RawExpr, ind-RawExpr, roll-RawExpr, map-RawExpr}
use Rattle.c_tree.specs.declared.raw.expr.RawExpr.TheOpen.{RawExpr-F}
use Rattle.c_tree.proofs.RawTrees.{ExprParts, expr_layer}
use Rattle.c_language.specs.Uses.{operands_of}
use Rattle.c_language.proofs.Lists.{contains_first, contains_later}

-- ---- members of short lists

pub in_none : {B : Type 0} (m : RawExpr) → Contains (operands_of RawExpr-F.Null) m → B
in_none m (k, within, is) = absurd (omega (arith, within))

pub in_one : {A : Type 0} (a m : A) → Contains (a ∷ []) m → a ≡ m
in_one a m (zero, within, is) = is
in_one a m (suc k, within, is) = absurd (omega (arith, within))

-- ---- expressions

module _ (Q : RawExpr → Type 0) where
  of_one : (a : (x : RawExpr) × Q x) (m : RawExpr) → Contains (a.0 ∷ []) m → Q m
  of_one a m c = subst Q (in_one a.0 m c) a.1

  of_two : (a b : (x : RawExpr) × Q x) (m : RawExpr) → Contains (a.0 ∷ (b.0 ∷ [])) m → Q m
  of_two a b m (zero, within, is) = subst Q is a.1
  of_two a b m (suc k, within, is) = of_one b m (k, omega (arith, within), is)

  of_three : (a b c : (x : RawExpr) × Q x) (m : RawExpr) → Contains (a.0 ∷ (b.0 ∷ (c.0 ∷ []))) m → Q m
  of_three a b c m (zero, within, is) = subst Q is a.1
  of_three a b c m (suc k, within, is) = of_two b c m (k, omega (arith, within), is)

  -- each operand has its fact
  of_operand : (y : ExprParts Q) (m : RawExpr) → Contains (operands_of (expr_layer Q y)) m → Q m
  of_operand (RawExpr-F.Constant text) m c = in_none m c
  of_operand RawExpr-F.Null m c = in_none m c
  of_operand RawExpr-F.Eof m c = in_none m c
  of_operand (RawExpr-F.Variable name) m c = in_none m c
  of_operand (RawExpr-F.Unary op a) m c = of_one a m c
  of_operand (RawExpr-F.Deref a) m c = of_one a m c
  of_operand (RawExpr-F.AddressOf a) m c = of_one a m c
  of_operand (RawExpr-F.Binary op a b) m c = of_two a b m c
  of_operand (RawExpr-F.AndAlso a b) m c = of_two a b m c
  of_operand (RawExpr-F.OrElse a b) m c = of_two a b m c
  of_operand (RawExpr-F.Choose x a b) m c = of_three x a b m c
  of_operand (RawExpr-F.Cast t a) m c = of_one a m c
  of_operand (RawExpr-F.Index a i) m c = of_two a i m c
  of_operand (RawExpr-F.Member a w) m c = of_one a m c
  of_operand (RawExpr-F.Arrow a w) m c = of_one a m c
  of_operand (RawExpr-F.Paren a) m c = of_one a m c

  -- a fact about expressions holds where each layer has it from its operands
  pub by_operands : ((l : RawExpr-F RawExpr) → ((m : RawExpr) → Contains (operands_of l) m → Q m) → Q (roll-RawExpr l)) → (a : RawExpr) → Q a
  by_operands layer = ind-RawExpr Q (λ x y is. subst (λ z. Q (roll-RawExpr z)) is (layer (expr_layer Q y) (of_operand y)))

module _ {A : Type 0} (p q : RawExpr → A) where
  abbrev Same : List RawExpr → Type 0
  Same all = (m : RawExpr) → Contains all m → q m ≡ p m

  first_same : (a : RawExpr) (rest : List RawExpr) → Same (a ∷ rest) → q a ≡ p a
  first_same a rest h = h a (contains_first a rest)

  second_same : (a b : RawExpr) (rest : List RawExpr) → Same (a ∷ (b ∷ rest)) → q b ≡ p b
  second_same a b rest h = h b (contains_later a b (b ∷ rest) (contains_first b rest))

  third_same : (a b c : RawExpr) → Same (a ∷ (b ∷ (c ∷ []))) → q c ≡ p c
  third_same a b c h = h c (contains_later a c (b ∷ (c ∷ [])) (contains_later b c (c ∷ []) (contains_first c [])))

  -- two functions of expressions make the same of a layer where they agree on its operands
  pub layers_same : (l : RawExpr-F RawExpr) → Same (operands_of l) → map-RawExpr RawExpr A q l ≡ map-RawExpr RawExpr A p l
  layers_same (RawExpr-F.Constant text) h = refl
  layers_same RawExpr-F.Null h = refl
  layers_same RawExpr-F.Eof h = refl
  layers_same (RawExpr-F.Variable name) h = refl
  layers_same (RawExpr-F.Unary op a) h = ap (RawExpr-F.Unary op) (first_same a [] h)
  layers_same (RawExpr-F.Deref a) h = ap RawExpr-F.Deref (first_same a [] h)
  layers_same (RawExpr-F.AddressOf a) h = ap RawExpr-F.AddressOf (first_same a [] h)
  layers_same (RawExpr-F.Binary op a b) h = ap₂ (RawExpr-F.Binary op) (first_same a (b ∷ []) h) (second_same a b [] h)
  layers_same (RawExpr-F.AndAlso a b) h = ap₂ RawExpr-F.AndAlso (first_same a (b ∷ []) h) (second_same a b [] h)
  layers_same (RawExpr-F.OrElse a b) h = ap₂ RawExpr-F.OrElse (first_same a (b ∷ []) h) (second_same a b [] h)
  layers_same (RawExpr-F.Choose c a b) h =
      ap₂ (λ (x y : A). RawExpr-F.Choose x y (q b)) (first_same c (a ∷ (b ∷ [])) h) (second_same c a (b ∷ []) h)
      ∙ ap (RawExpr-F.Choose (p c) (p a)) (third_same c a b h)
  layers_same (RawExpr-F.Cast t a) h = ap (RawExpr-F.Cast t) (first_same a [] h)
  layers_same (RawExpr-F.Index a i) h = ap₂ RawExpr-F.Index (first_same a (i ∷ []) h) (second_same a i [] h)
  layers_same (RawExpr-F.Member a w) h = ap (λ (x : A). RawExpr-F.Member x w) (first_same a [] h)
  layers_same (RawExpr-F.Arrow a w) h = ap (λ (x : A). RawExpr-F.Arrow x w) (first_same a [] h)
  layers_same (RawExpr-F.Paren a) h = ap RawExpr-F.Paren (first_same a [] h)

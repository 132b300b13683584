-- Expressions with other numbers for their variables, layer by layer.
use Rattle.std.proofs.Common.{◌≡◌, ℕ, sym, ap, ◌∙◌}
use Rattle.c_tree.specs.declared.expr.Expr.{Expr, fold-Expr, fold-roll-Expr, roll-Expr, map-Expr}
use Rattle.c_tree.specs.declared.expr.Expr.TheOpen.{Expr-F}
use Rattle.c_tree.specs.declared.expr.Expr.TheVariants as e
use Rattle.projection.specs.Renumbering.{renamed_step, renamed}

-- a layer with another number for its variable
abbrev pub renamed_layer : (ℕ → ℕ) → Expr-F Expr → Expr-F Expr
renamed_layer f (Expr-F.Variable x) = Expr-F.Variable (f x)
renamed_layer f z = z

renamed_rolls : (f : ℕ → ℕ) (z : Expr-F Expr) → renamed_step f z ≡ roll-Expr (renamed_layer f z)
renamed_rolls f (Expr-F.Constant text t v) = sym (e.rolls-Constant text t v)
renamed_rolls f Expr-F.Null = sym e.rolls-Null
renamed_rolls f Expr-F.Eof = sym e.rolls-Eof
renamed_rolls f (Expr-F.Variable x) = sym (e.rolls-Variable (f x))
renamed_rolls f (Expr-F.Unary op a) = sym (e.rolls-Unary op a)
renamed_rolls f (Expr-F.Deref a) = sym (e.rolls-Deref a)
renamed_rolls f (Expr-F.AddressOf a) = sym (e.rolls-AddressOf a)
renamed_rolls f (Expr-F.Binary op a b) = sym (e.rolls-Binary op a b)
renamed_rolls f (Expr-F.AndAlso a b) = sym (e.rolls-AndAlso a b)
renamed_rolls f (Expr-F.OrElse a b) = sym (e.rolls-OrElse a b)
renamed_rolls f (Expr-F.Choose c a b) = sym (e.rolls-Choose c a b)
renamed_rolls f (Expr-F.Cast t a) = sym (e.rolls-Cast t a)
renamed_rolls f (Expr-F.Index a i) = sym (e.rolls-Index a i)
renamed_rolls f (Expr-F.Member a m) = sym (e.rolls-Member a m)
renamed_rolls f (Expr-F.Arrow a m) = sym (e.rolls-Arrow a m)
renamed_rolls f (Expr-F.Paren a) = sym (e.rolls-Paren a)

-- a renamed expression is a layer of renamed ones
renamed_roll : (f : ℕ → ℕ) (z : Expr-F Expr) → renamed f (roll-Expr z) ≡ roll-Expr (renamed_layer f (map-Expr Expr Expr (renamed f) z))
renamed_roll f z =
    fold-roll-Expr Expr (renamed_step f) z ∙ renamed_rolls f (map-Expr Expr Expr (renamed f) z)

-- a fold of a renamed expression
pub fold_renamed : (A : Type 0) (step : Expr-F A → A) (f : ℕ → ℕ) (z : Expr-F Expr) → fold-Expr A step (renamed f (roll-Expr z)) ≡ step (map-Expr Expr A (fold-Expr A step) (renamed_layer f (map-Expr Expr Expr (renamed f) z)))
fold_renamed A step f z =
    ap (fold-Expr A step) (renamed_roll f z) ∙ fold-roll-Expr A step (renamed_layer f (map-Expr Expr Expr (renamed f) z))

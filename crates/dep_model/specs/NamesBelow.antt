-- The variables that an expression names have numbers below a bound.
use Rattle.std.specs.Prelude.{ℕ, ◌&&◌, nat_lt, Bool, true}
use Rattle.c_tree.specs.declared.expr.Expr.{Expr, fold-Expr}
use Rattle.c_tree.specs.declared.expr.Expr.TheOpen.{Expr-F}

-- the variables that an expression names have numbers below n
abbrev pub names_step : ℕ → Expr-F Bool → Bool
names_step n (Expr-F.Constant text t v) = true
names_step n Expr-F.Null = true
names_step n Expr-F.Eof = true
names_step n (Expr-F.Variable x) = nat_lt x n
names_step n (Expr-F.Unary op a) = a
names_step n (Expr-F.Deref a) = a
names_step n (Expr-F.AddressOf a) = a
names_step n (Expr-F.Binary op a b) = a && b
names_step n (Expr-F.AndAlso a b) = a && b
names_step n (Expr-F.OrElse a b) = a && b
names_step n (Expr-F.Choose c a b) = c && (a && b)
names_step n (Expr-F.Cast t a) = a
names_step n (Expr-F.Index a i) = a && i
names_step n (Expr-F.Member a m) = a
names_step n (Expr-F.Arrow a m) = a
names_step n (Expr-F.Paren a) = a

abbrev pub names_below : ℕ → Expr → Bool
names_below n = fold-Expr Bool (names_step n)

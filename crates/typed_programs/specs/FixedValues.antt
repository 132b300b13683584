-- Expressions of which no name of a variable, and no operator on places, is a part: what globals begin with (ISO C99 6.7.8, paragraph 4).
use Rattle.std.specs.Prelude.{Bool, true, false, ◌&&◌}
use Rattle.std.specs.List.{list_all}
use Rattle.c_tree.specs.declared.expr.Expr.{Expr, fold-Expr}
use Rattle.c_tree.specs.declared.expr.Expr.TheOpen.{Expr-F}
use Rattle.c_tree.specs.declared.program.Init.{Init}
use Rattle.c_tree.specs.declared.program.Init.TheVariants as init

abbrev pub fixed_step : Expr-F Bool → Bool
fixed_step (Expr-F.Constant text k v) = true
fixed_step Expr-F.Null = true
fixed_step Expr-F.Eof = true
fixed_step (Expr-F.Variable x) = false
fixed_step (Expr-F.Unary op a) = a
fixed_step (Expr-F.Deref a) = false
fixed_step (Expr-F.AddressOf a) = false
fixed_step (Expr-F.Binary op a b) = a && b
fixed_step (Expr-F.AndAlso a b) = a && b
fixed_step (Expr-F.OrElse a b) = a && b
fixed_step (Expr-F.Choose c a b) = c && (a && b)
fixed_step (Expr-F.Cast k a) = a
fixed_step (Expr-F.Index a i) = false
fixed_step (Expr-F.Member a m) = false
fixed_step (Expr-F.Arrow a m) = false
fixed_step (Expr-F.Paren a) = a

abbrev pub is_fixed : Expr → Bool
is_fixed = fold-Expr Bool fixed_step

abbrev pub begins_fixed : Init → Bool
begins_fixed init.None = true
begins_fixed (init.One e) = is_fixed e
begins_fixed (init.Items es) = list_all is_fixed es

-- The variables that words of a program name: those of expressions, of the parts of statements, and of acts.
use Rattle.std.specs.Prelude.{ℕ, ◌==◌, List, Bool, false, ◌||◌, Option, Some, None}
use Rattle.std.specs.List.{list_any}
use Rattle.c_tree.specs.declared.expr.Expr.{Expr, fold-Expr}
use Rattle.c_tree.specs.declared.expr.Expr.TheOpen.{Expr-F}
use Rattle.c_tree.specs.declared.program.Init.{Init}
use Rattle.c_tree.specs.declared.program.Init.TheVariants as init
use Rattle.c_tree.specs.declared.statement.Amount.{Amount}
use Rattle.c_tree.specs.declared.statement.Amount.TheVariants as amount
use Rattle.c_tree.specs.declared.statement.Size.{Size}
use Rattle.c_tree.specs.declared.statement.Size.TheVariants as size
use Rattle.c_tree.specs.declared.statement.Target.{Target}
use Rattle.c_tree.specs.declared.statement.Target.TheVariants as target
use Rattle.c_language.specs.Code.{Act, Begins, Sets, Bumps, Fetches, Writes, Prints, Allocates, Frees, Returns, Tests}

-- whether the words of an expression name a variable
abbrev pub names_step : Expr-F (ℕ → Bool) → ℕ → Bool
names_step (Expr-F.Constant text t v) x = false
names_step Expr-F.Null x = false
names_step Expr-F.Eof x = false
names_step (Expr-F.Variable y) x = y == x
names_step (Expr-F.Unary op a) x = a x
names_step (Expr-F.Deref a) x = a x
names_step (Expr-F.AddressOf a) x = a x
names_step (Expr-F.Binary op a b) x = a x || b x
names_step (Expr-F.AndAlso a b) x = a x || b x
names_step (Expr-F.OrElse a b) x = a x || b x
names_step (Expr-F.Choose c a b) x = c x || (a x || b x)
names_step (Expr-F.Cast t a) x = a x
names_step (Expr-F.Index a i) x = a x || i x
names_step (Expr-F.Member a m) x = a x
names_step (Expr-F.Arrow a m) x = a x
names_step (Expr-F.Paren a) x = a x

abbrev pub names : Expr → ℕ → Bool
names = fold-Expr (ℕ → Bool) names_step

abbrev pub any_names : List Expr → ℕ → Bool
any_names es x = list_any (λ (e : Expr). names e x) es

abbrev pub init_names : Init → ℕ → Bool
init_names init.None x = false
init_names (init.One e) x = names e x
init_names (init.Items es) x = any_names es x

abbrev pub target_names : Target → ℕ → Bool
target_names target.None x = false
target_names (target.Place e) x = names e x
target_names (target.Declared y) x = y == x

-- `sizeof *y` names y
abbrev pub size_names : Size → ℕ → Bool
size_names (size.Type t) x = false
size_names (size.Pointee y in_parentheses) x = y == x

abbrev pub amount_names : Amount → ℕ → Bool
amount_names (amount.Size t) x = size_names t x
amount_names (amount.CountSize e t) x = names e x || size_names t x
amount_names (amount.SizeCount t e) x = size_names t x || names e x
amount_names (amount.Count e) x = names e x

abbrev pub value_names : Option Expr → ℕ → Bool
value_names None x = false
value_names (Some e) x = names e x

-- what a statement names that calls no function of the text: labels name no variable (ISO C99 6.8.4.2, paragraph 3)
abbrev pub act_names : Act → ℕ → Bool
act_names (Begins y i) x = (y == x) || init_names i x
act_names (Sets left op right) x = names left x || names right x
act_names (Bumps left up) x = names left x
act_names (Fetches to) x = target_names to x
act_names (Writes e) x = names e x
act_names (Prints format args) x = any_names args x
act_names (Allocates to n) x = target_names to x || amount_names n x
act_names (Frees e) x = names e x
act_names (Returns e) x = value_names e x
act_names (Tests e) x = names e x

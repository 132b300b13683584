-- The variables that a statement names have numbers below n.
use Rattle.std.specs.Prelude.{ℕ, nat_lt, Bool, true, ◌&&◌, Option, Some, None}
use Rattle.std.specs.List.{list_all}
use Rattle.c_tree.specs.declared.expr.Expr.{Expr}
use Rattle.c_tree.specs.declared.program.Init.{Init}
use Rattle.c_tree.specs.declared.program.Init.TheVariants as init
use Rattle.c_tree.specs.declared.statement.Amount.{Amount}
use Rattle.c_tree.specs.declared.statement.Amount.TheVariants as amount
use Rattle.c_tree.specs.declared.statement.Size.{Size}
use Rattle.c_tree.specs.declared.statement.Size.TheVariants as size
use Rattle.c_tree.specs.declared.statement.Target.{Target}
use Rattle.c_tree.specs.declared.statement.Target.TheVariants as target
use Rattle.c_language.specs.Code.{Act, Begins, Sets, Bumps, Fetches, Writes, Prints, Allocates, Frees, Returns, Tests}
use Rattle.dep_model.specs.NamesBelow.{names_below}
use Rattle.dep_model.specs.Doings.{Doing, Does, Calls}

abbrev pub value_below : ℕ → Option Expr → Bool
value_below n None = true
value_below n (Some e) = names_below n e

abbrev pub init_below : ℕ → Init → Bool
init_below n init.None = true
init_below n (init.One e) = names_below n e
init_below n (init.Items es) = list_all (names_below n) es

abbrev pub target_below : ℕ → Target → Bool
target_below n target.None = true
target_below n (target.Place e) = names_below n e
target_below n (target.Declared x) = nat_lt x n

-- `sizeof *y` names y
abbrev pub size_below : ℕ → Size → Bool
size_below n (size.Type t) = true
size_below n (size.Pointee y in_parentheses) = nat_lt y n

abbrev pub amount_below : ℕ → Amount → Bool
amount_below n (amount.Size t) = size_below n t
amount_below n (amount.CountSize e t) = names_below n e && size_below n t
amount_below n (amount.SizeCount t e) = size_below n t && names_below n e
amount_below n (amount.Count e) = names_below n e

abbrev pub act_below : ℕ → Act → Bool
act_below n (Begins x i) = nat_lt x n && init_below n i
act_below n (Sets left op right) = names_below n left && names_below n right
act_below n (Bumps left up) = names_below n left
act_below n (Fetches to) = target_below n to
act_below n (Writes e) = names_below n e
act_below n (Prints format args) = list_all (names_below n) args
act_below n (Allocates to count) = target_below n to && amount_below n count
act_below n (Frees e) = names_below n e
act_below n (Returns e) = value_below n e
act_below n (Tests e) = names_below n e

abbrev pub doing_below : ℕ → Doing → Bool
doing_below n (Does i a) = act_below n a
doing_below n (Calls i to f args) = target_below n to && list_all (names_below n) args

-- The expressions of what is done next: those whose values are used, and those whose objects are stored to.
use Rattle.std.specs.Prelude.{List, [], ◌∷◌, Option, Some, None}
use Rattle.c_arith.specs.declared.operators.BinaryOp.{BinaryOp}
use Rattle.c_tree.specs.declared.expr.Expr.{Expr}
use Rattle.c_tree.specs.declared.program.Init.{Init}
use Rattle.c_tree.specs.declared.program.Init.TheVariants as init
use Rattle.c_tree.specs.declared.statement.Amount.{Amount}
use Rattle.c_tree.specs.declared.statement.Amount.TheVariants as amount
use Rattle.c_tree.specs.declared.statement.Target.{Target}
use Rattle.c_tree.specs.declared.statement.Target.TheVariants as target
use Rattle.c_language.specs.Code.{Act, Begins, Sets, Bumps, Fetches, Writes, Prints, Allocates, Frees, Returns, Tests}
use Rattle.dep_model.specs.Doings.{Doing, Does, Calls}

abbrev pub init_exprs : Init → List Expr
init_exprs init.None = []
init_exprs (init.One e) = e ∷ []
init_exprs (init.Items es) = es

abbrev pub amount_exprs : Amount → List Expr
amount_exprs (amount.Size t) = []
amount_exprs (amount.CountSize e t) = e ∷ []
amount_exprs (amount.SizeCount t e) = e ∷ []
amount_exprs (amount.Count e) = e ∷ []

abbrev pub maybe_expr : Option Expr → List Expr
maybe_expr None = []
maybe_expr (Some e) = e ∷ []

-- a compound assignment takes the value of its left side too
abbrev pub compound_expr : Option BinaryOp → Expr → List Expr
compound_expr None left = []
compound_expr (Some op) left = left ∷ []

-- a malloc without a target, which no text has, does nothing
abbrev pub malloc_exprs : Target → Amount → List Expr
malloc_exprs target.None n = []
malloc_exprs (target.Place e) n = amount_exprs n
malloc_exprs (target.Declared x) n = amount_exprs n

-- those whose values an act uses
abbrev pub act_values : Act → List Expr
act_values (Begins x i) = init_exprs i
act_values (Sets left op right) = right ∷ compound_expr op left
act_values (Bumps left up) = left ∷ []
act_values (Fetches to) = []
act_values (Writes e) = e ∷ []
act_values (Prints format args) = args
act_values (Allocates to n) = malloc_exprs to n
act_values (Frees e) = e ∷ []
act_values (Returns e) = maybe_expr e
act_values (Tests e) = e ∷ []

abbrev pub doing_values : Doing → List Expr
doing_values (Does i a) = act_values a
doing_values (Calls i to f args) = args

abbrev pub target_exprs : Target → List Expr
target_exprs target.None = []
target_exprs (target.Place e) = e ∷ []
target_exprs (target.Declared x) = []

-- those whose objects an act stores to
abbrev pub act_places : Act → List Expr
act_places (Begins x i) = []
act_places (Sets left op right) = left ∷ []
act_places (Bumps left up) = left ∷ []
act_places (Fetches to) = target_exprs to
act_places (Writes e) = []
act_places (Prints format args) = []
act_places (Allocates to n) = target_exprs to
act_places (Frees e) = []
act_places (Returns e) = []
act_places (Tests e) = []

-- a call stores where its caller goes on
abbrev pub doing_places : Doing → List Expr
doing_places (Does i a) = act_places a
doing_places (Calls i to f args) = []

-- What else the rules ask of a function: what its switches are over, and the variables that begin in it.
use Rattle.std.specs.Prelude.{ℕ, List, [], ◌∷◌, ◌++◌, Option, Some, None}
use Rattle.c_tree.specs.declared.expr.Expr.{Expr}
use Rattle.c_tree.specs.declared.statement.Statement.{Statement, fold-Statement}
use Rattle.c_tree.specs.declared.statement.Statement.TheOpen.{Statement-F, Arm-F}
use Rattle.c_tree.specs.declared.statement.Target.{Target}
use Rattle.c_tree.specs.declared.statement.Target.TheVariants as target

-- the test of a switch, which is over an integer, or a variable that begins, which has a type
pub data Need : Type 0 where
  Picks : (test : Expr) → Need
  Starts : (x : ℕ) → Need

abbrev pub joined : List (List Need) → List Need
joined [] = []
joined (es ∷ more) = es ++ joined more

abbrev pub if_some : Option (List Need) → List Need
if_some None = []
if_some (Some es) = es

-- the variable that a call declares for its result
abbrev pub target_needs : Target → List Need
target_needs target.None = []
target_needs (target.Place e) = []
target_needs (target.Declared x) = Starts x ∷ []

abbrev pub needs_step : Statement-F (List Need) (List Need) → List Need
needs_step (Statement-F.Declare id l x init) = Starts x ∷ []
needs_step (Statement-F.Assign id l left op right) = []
needs_step (Statement-F.Bump id l a up before) = []
needs_step (Statement-F.Invoke id l to f args) = target_needs to
needs_step (Statement-F.Fetch id l to) = target_needs to
needs_step (Statement-F.Write id l e) = []
needs_step (Statement-F.Print id l format args) = []
needs_step (Statement-F.Heap id l to cast n) = target_needs to
needs_step (Statement-F.Release id l e) = []
needs_step (Statement-F.If id l e a b) = joined a ++ joined b
needs_step (Statement-F.While id l e b) = joined b
needs_step (Statement-F.Do id l e b) = joined b
needs_step (Statement-F.For id l i e s b) = if_some i ++ (if_some s ++ joined b)
needs_step (Statement-F.Switch id l e arms) = Picks e ∷ joined arms
needs_step (Statement-F.Block l b) = joined b
needs_step (Statement-F.Return id l e) = []

abbrev pub needs_arm : Arm-F (List Need) (List Need) → List Need
needs_arm a = joined a.body

-- those of a statement, and of the statements in it
abbrev pub needs : Statement → List Need
needs = fold-Statement (List Need) (List Need) needs_step needs_arm

abbrev pub body_needs : List Statement → List Need
body_needs [] = []
body_needs (s ∷ ss) = needs s ++ body_needs ss

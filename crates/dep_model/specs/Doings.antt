-- The statements of a function in the order of their numbers, as acts and calls.
use Rattle.std.specs.Prelude.{ℕ, List, [], ◌∷◌, ◌++◌, Option, Some, None, slice_get}
use Rattle.std.specs.Option.{option_map_or}
use Rattle.c_tree.specs.declared.expr.Expr.{Expr}
use Rattle.c_tree.specs.declared.program.Function.{Function}
use Rattle.c_tree.specs.declared.program.Init.{Init}
use Rattle.c_tree.specs.declared.program.Program.{Program}
use Rattle.c_tree.specs.declared.statement.Target.{Target}
use Rattle.c_tree.specs.declared.statement.Statement.{Statement, fold-Statement}
use Rattle.c_tree.specs.declared.statement.Statement.TheOpen.{Statement-F, Arm-F}
use Rattle.c_language.specs.Code.{Act, Begins, Sets, Bumps, Fetches, Writes, Prints, Allocates, Frees, Returns, Tests}

-- a statement with its number: what it does, or which function it calls
pub data Doing : Type 0 where
  Does : (id : ℕ) → Act → Doing
  Calls : (id : ℕ) → (to : Target) → (function : ℕ) → (args : List Expr) → Doing

-- the number of a statement
abbrev pub doing_number : Doing → ℕ
doing_number (Does i a) = i
doing_number (Calls i to f args) = i

abbrev pub joined : List (List Doing) → List Doing
joined [] = []
joined (ds ∷ more) = ds ++ joined more

abbrev pub if_some : Option (List Doing) → List Doing
if_some None = []
if_some (Some ds) = ds

abbrev pub begun : Option ℕ → ℕ → Init → List Doing
begun None x i = []
begun (Some id) x i = Does id (Begins x i) ∷ []

-- a test comes before what it decides, a for's test before its init and its step
abbrev pub doing_step : Statement-F (List Doing) (List Doing) → List Doing
doing_step (Statement-F.Declare id l x init) = begun id x init
doing_step (Statement-F.Assign id l left op right) = Does id (Sets left op right) ∷ []
doing_step (Statement-F.Bump id l a up before) = Does id (Bumps a up) ∷ []
doing_step (Statement-F.Invoke id l to f args) = Calls id to f args ∷ []
doing_step (Statement-F.Fetch id l to) = Does id (Fetches to) ∷ []
doing_step (Statement-F.Write id l e) = Does id (Writes e) ∷ []
doing_step (Statement-F.Print id l format args) = Does id (Prints format args) ∷ []
doing_step (Statement-F.Heap id l to cast n) = Does id (Allocates to n) ∷ []
doing_step (Statement-F.Release id l e) = Does id (Frees e) ∷ []
doing_step (Statement-F.If id l e a b) = Does id (Tests e) ∷ (joined a ++ joined b)
doing_step (Statement-F.While id l e b) = Does id (Tests e) ∷ joined b
doing_step (Statement-F.Do id l e b) = Does id (Tests e) ∷ joined b
doing_step (Statement-F.For id l i e s b) = Does id (Tests e) ∷ (if_some i ++ (if_some s ++ joined b))
doing_step (Statement-F.Switch id l e arms) = Does id (Tests e) ∷ joined arms
doing_step (Statement-F.Block l b) = joined b
doing_step (Statement-F.Return id l e) = Does id (Returns e) ∷ []

abbrev pub doing_arm : Arm-F (List Doing) (List Doing) → List Doing
doing_arm a = joined a.body

abbrev pub doings : Statement → List Doing
doings = fold-Statement (List Doing) (List Doing) doing_step doing_arm

abbrev pub body_doings : List Statement → List Doing
body_doings [] = []
body_doings (s ∷ ss) = doings s ++ body_doings ss

abbrev pub functions_doings : List Function → List Doing
functions_doings [] = []
functions_doings (f ∷ fs) = body_doings f.body ++ functions_doings fs

-- the statements of a program, function by function
abbrev pub program_doings : Program → List Doing
program_doings p = functions_doings p.functions

-- the statements of a function
abbrev pub doings_of : Program → ℕ → List Doing
doings_of p f = option_map_or (λ (g : Function). body_doings g.body) (slice_get p.functions f) []

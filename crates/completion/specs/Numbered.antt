-- The statements of a program by their numbers.
use Rattle.std.specs.Prelude.{◌≡◌, ℕ, suc, ◌==◌, Bool, if◌then◌else◌, List, [], ◌∷◌, ◌++◌, map, flat_map, Option, Some, None}
use Rattle.std.specs.Option.{option_and_then, option_to_list}
use Rattle.std.specs.List.{find}
use Rattle.std.specs.Borrow.{Bor}
use Rattle.std.specs.declared.vec.Vec.{Vec}
use Rattle.std.specs.declared.alloc.Global.{Global}
use Rattle.c_tree.specs.declared.program.Function.{Function}
use Rattle.c_tree.specs.declared.program.Program.{Program}
use Rattle.c_tree.specs.declared.statement.Arm.{Arm}
use Rattle.c_tree.specs.declared.statement.Statement.{Statement, out-Statement}
use Rattle.c_tree.specs.declared.statement.Statement.TheOpen.{Statement-F}
use Rattle.c_language.specs.Code.{Begins, Sets, Bumps, Fetches, Writes, Prints, Allocates, Frees, Returns, Tests}
use Rattle.dep_model.specs.Doings.{Doing, Does, Calls, doings, body_doings}
use Rattle.dep_model.specs.VertexOrder.{has_number}
use Rattle.completion.specs.declared.statements.Owned.{Owned}
use Rattle.completion.specs.Rows.{row}

abbrev pub layer_doing : Statement-F Statement Arm → Option Doing
layer_doing (Statement-F.Declare None l x init) = None
layer_doing (Statement-F.Declare (Some id) l x init) = Some (Does id (Begins x init))
layer_doing (Statement-F.Assign id l left op right) = Some (Does id (Sets left op right))
layer_doing (Statement-F.Bump id l a up before) = Some (Does id (Bumps a up))
layer_doing (Statement-F.Invoke id l to f args) = Some (Calls id to f args)
layer_doing (Statement-F.Fetch id l to) = Some (Does id (Fetches to))
layer_doing (Statement-F.Write id l e) = Some (Does id (Writes e))
layer_doing (Statement-F.Print id l format args) = Some (Does id (Prints format args))
layer_doing (Statement-F.Heap id l to cast n) = Some (Does id (Allocates to n))
layer_doing (Statement-F.Release id l e) = Some (Does id (Frees e))
layer_doing (Statement-F.If id l e a b) = Some (Does id (Tests e))
layer_doing (Statement-F.While id l e b) = Some (Does id (Tests e))
layer_doing (Statement-F.Do id l e b) = Some (Does id (Tests e))
layer_doing (Statement-F.For id l i e s b) = Some (Does id (Tests e))
layer_doing (Statement-F.Switch id l e arms) = Some (Does id (Tests e))
layer_doing (Statement-F.Block l b) = None
layer_doing (Statement-F.Return id l e) = Some (Does id (Returns e))

-- what the words of a statement itself do; a bare block and a declaration without an initialiser do nothing
abbrev pub own_doing : Statement → Option Doing
own_doing s = layer_doing (out-Statement s)

-- what one of a function's statements does
pub record Stated : Type 0 where
  pub function : ℕ
  pub doing : Option Doing

abbrev pub stated : Owned → Stated
stated o = record { function = o.function; doing = own_doing o.statement.now }

-- the statements of a row
abbrev pub stated_at : List (Vec Owned Global) → ℕ → List Stated
stated_at rows i = map stated (row rows i)

-- a statement, in the row of its number
abbrev pub if_number : ℕ → ℕ → Doing → List Stated
if_number f i d = if has_number i d then record { function = f; doing = Some d } ∷ [] else []

-- those of some statements of function f that have the number i
abbrev pub with_number : ℕ → ℕ → List Doing → List Stated
with_number f i ds = flat_map (if_number f i) ds

-- those of functions, of which the first has the number f
abbrev pub functions_with : ℕ → ℕ → List Function → List Stated
functions_with f i [] = []
functions_with f i (g ∷ gs) = with_number f i (body_doings g.body) ++ functions_with (suc f) i gs

-- the rows are those of a program: each has the statements of its number, function by function
abbrev pub AreRows : Program → List (Vec Owned Global) → Type 0
AreRows p rows = (i : ℕ) → stated_at rows i ≡ functions_with 0 i p.functions

abbrev pub is_of : ℕ → Stated → Bool
is_of f s = s.function == f

-- what the first of them does that is of function f
abbrev pub first_of : ℕ → List Stated → Option Doing
first_of f ss = option_and_then (λ (s : Stated). s.doing) (find (is_of f) ss)

abbrev pub doing_of : Option (Bor Statement) → Option Doing
doing_of None = None
doing_of (Some s) = own_doing s.now

-- ---- the walk
abbrev pub own_doings : Statement → List Doing
own_doings s = option_to_list (own_doing s)

abbrev pub arms_doings : List Arm → List Doing
arms_doings [] = []
arms_doings (a ∷ as_) = body_doings a.body ++ arms_doings as_

abbrev pub part_doings : Option Statement → List Doing
part_doings None = []
part_doings (Some s) = doings s

-- what the statements inside of a statement do
abbrev pub layer_inner : Statement-F Statement Arm → List Doing
layer_inner (Statement-F.Declare id l x init) = []
layer_inner (Statement-F.Assign id l left op right) = []
layer_inner (Statement-F.Bump id l a up before) = []
layer_inner (Statement-F.Invoke id l to f args) = []
layer_inner (Statement-F.Fetch id l to) = []
layer_inner (Statement-F.Write id l e) = []
layer_inner (Statement-F.Print id l format args) = []
layer_inner (Statement-F.Heap id l to cast n) = []
layer_inner (Statement-F.Release id l e) = []
layer_inner (Statement-F.If id l e a b) = body_doings a ++ body_doings b
layer_inner (Statement-F.While id l e b) = body_doings b
layer_inner (Statement-F.Do id l e b) = body_doings b
layer_inner (Statement-F.For id l i e s b) = part_doings i ++ (part_doings s ++ body_doings b)
layer_inner (Statement-F.Switch id l e arms) = arms_doings arms
layer_inner (Statement-F.Block l b) = body_doings b
layer_inner (Statement-F.Return id l e) = []

abbrev pub inner_doings : Statement → List Doing
inner_doings s = layer_inner (out-Statement s)

-- each row gains those of some statements of function f that have its number
abbrev pub Gains : ℕ → List (Vec Owned Global) → List (Vec Owned Global) → List Doing → Type 0
Gains f old new ds = (i : ℕ) → stated_at new i ≡ stated_at old i ++ with_number f i ds

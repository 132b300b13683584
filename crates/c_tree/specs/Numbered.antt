-- The numbered statements of a program, with their lines.
use Rattle.std.specs.Prelude.{◌≡◌, ◌≢◌, ◌<◌, ◌↔◌, ℕ, List, [], ◌∷◌, ◌++◌, Option, Some, None, All, Contains}
use Rattle.std.specs.Option.{option_map, option_to_list}
use Rattle.c_tree.specs.declared.numbered.Start.{Start}
use Rattle.c_tree.specs.declared.program.Program.{Program}
use Rattle.c_tree.specs.declared.program.Function.{Function}
use Rattle.c_tree.specs.declared.statement.Statement.{Statement, fold-Statement, out-Statement}
use Rattle.c_tree.specs.declared.statement.Statement.TheOpen.{Statement-F, Arm-F}
use Rattle.c_tree.specs.declared.statement.Arm.{Arm, out-Arm}

abbrev pub Starts : Type 0
Starts = List Start

abbrev pub start : ℕ → ℕ → Start
start id line = record { id = id; line = line }

abbrev pub all : List Starts → Starts
all [] = []
all (s ∷ ss) = s ++ all ss

abbrev pub if_some : Option Starts → Starts
if_some None = []
if_some (Some s) = s

abbrev pub declared_start : Option ℕ → ℕ → Starts
declared_start None line = []
declared_start (Some id) line = start id line ∷ []

abbrev pub starts_step : Statement-F Starts Starts → Starts
starts_step (Statement-F.Declare id l x init) = declared_start id l
starts_step (Statement-F.Assign id l left op right) = start id l ∷ []
starts_step (Statement-F.Bump id l a up before) = start id l ∷ []
starts_step (Statement-F.Invoke id l to f args) = start id l ∷ []
starts_step (Statement-F.Fetch id l to) = start id l ∷ []
starts_step (Statement-F.Write id l e) = start id l ∷ []
starts_step (Statement-F.Print id l format args) = start id l ∷ []
starts_step (Statement-F.Heap id l to cast n) = start id l ∷ []
starts_step (Statement-F.Release id l e) = start id l ∷ []
starts_step (Statement-F.If id l e a b) = start id l ∷ (all a ++ all b)
starts_step (Statement-F.While id l e b) = start id l ∷ all b
starts_step (Statement-F.Do id l e b) = start id l ∷ all b
starts_step (Statement-F.For id l i e s b) = start id l ∷ (if_some i ++ (if_some s ++ all b))
starts_step (Statement-F.Switch id l e arms) = start id l ∷ all arms
starts_step (Statement-F.Block l b) = all b
starts_step (Statement-F.Return id l e) = start id l ∷ []

abbrev pub arm_starts : Arm-F Starts Starts → Starts
arm_starts a = all a.body

-- the numbered statements of a statement, itself among them
abbrev pub starts : Statement → Starts
starts = fold-Statement Starts Starts starts_step arm_starts

abbrev pub body_starts : List Statement → Starts
body_starts [] = []
body_starts (s ∷ ss) = starts s ++ body_starts ss

abbrev pub function_starts : List Function → Starts
function_starts [] = []
function_starts (f ∷ fs) = body_starts f.body ++ function_starts fs

-- the numbered statements of a program
abbrev pub program_starts : Program → Starts
program_starts p = function_starts p.functions

abbrev pub layer_start : Statement-F Statement Arm → Option Start
layer_start (Statement-F.Declare None l x init) = None
layer_start (Statement-F.Declare (Some id) l x init) = Some (start id l)
layer_start (Statement-F.Assign id l left op right) = Some (start id l)
layer_start (Statement-F.Bump id l a up before) = Some (start id l)
layer_start (Statement-F.Invoke id l to f args) = Some (start id l)
layer_start (Statement-F.Fetch id l to) = Some (start id l)
layer_start (Statement-F.Write id l e) = Some (start id l)
layer_start (Statement-F.Print id l format args) = Some (start id l)
layer_start (Statement-F.Heap id l to cast n) = Some (start id l)
layer_start (Statement-F.Release id l e) = Some (start id l)
layer_start (Statement-F.If id l e a b) = Some (start id l)
layer_start (Statement-F.While id l e b) = Some (start id l)
layer_start (Statement-F.Do id l e b) = Some (start id l)
layer_start (Statement-F.For id l i e step b) = Some (start id l)
layer_start (Statement-F.Switch id l e arms) = Some (start id l)
layer_start (Statement-F.Block l b) = None
layer_start (Statement-F.Return id l e) = Some (start id l)

-- a statement's own number and line; a bare block and a declaration without initialiser have none
abbrev pub own_start : Statement → Option Start
own_start one = layer_start (out-Statement one)

-- a statement's own number
abbrev pub own_id : Statement → Option ℕ
own_id one = option_map (λ (x : Start). x.id) (own_start one)

abbrev pub arms_inner : List Arm → List Statement
arms_inner [] = []
arms_inner (a ∷ rest) = (out-Arm a).body ++ arms_inner rest

abbrev pub layer_inner : Statement-F Statement Arm → List Statement
layer_inner (Statement-F.Declare id l x init) = []
layer_inner (Statement-F.Assign id l left op right) = []
layer_inner (Statement-F.Bump id l a up before) = []
layer_inner (Statement-F.Invoke id l to f args) = []
layer_inner (Statement-F.Fetch id l to) = []
layer_inner (Statement-F.Write id l e) = []
layer_inner (Statement-F.Print id l format args) = []
layer_inner (Statement-F.Heap id l to cast n) = []
layer_inner (Statement-F.Release id l e) = []
layer_inner (Statement-F.If id l e a b) = a ++ b
layer_inner (Statement-F.While id l e b) = b
layer_inner (Statement-F.Do id l e b) = b
layer_inner (Statement-F.For id l i e step b) = option_to_list i ++ (option_to_list step ++ b)
layer_inner (Statement-F.Switch id l e arms) = arms_inner arms
layer_inner (Statement-F.Block l b) = b
layer_inner (Statement-F.Return id l e) = []

-- the statements right inside a statement: those of its lists, its first part and its step
abbrev pub inner : Statement → List Statement
inner one = layer_inner (out-Statement one)

-- a statement stands in a list: it is one of the list, or stands inside one of the list
pub data StandsIn : List Statement → Statement → Type 0 where
  here : {one : Statement} {rest : List Statement} → StandsIn (one ∷ rest) one
  inside : {outer one : Statement} {rest : List Statement} → StandsIn (inner outer) one → StandsIn (outer ∷ rest) one
  later : {first one : Statement} {rest : List Statement} → StandsIn rest one → StandsIn (first ∷ rest) one

-- the statement stands in the body of a function of the program
pub record StandsInProgram (p : Program) (one : Statement) : Type 0 where
  pub function : Function
  pub defined : Contains p.functions function
  pub stands : StandsIn function.body one

-- the statement of a program that has the number
pub record IsNumbered (p : Program) (id : ℕ) (one : Statement) : Type 0 where
  pub number : own_id one ≡ Some id
  pub stands : StandsInProgram p one

-- none of the numbered statements has the number
pub record Lacks (id : ℕ) (all : Starts) : Type 0 where
  pub others : All (λ (x : Start). x.id ≢ id) all

-- some statement of the program has the number
abbrev pub HasNumber : Program → ℕ → Type 0
HasNumber p id = (line : ℕ) × Contains (program_starts p) (start id line)

-- the numbers of the statements are exactly those below their count
abbrev pub IsWellNumbered : Program → Type 0
IsWellNumbered p = (id : ℕ) → (id < p.statements) ↔ HasNumber p id

-- What is left to do in a function, piece by piece, as code.
use Rattle.std.specs.Prelude.{ℕ, List, [], ◌∷◌, map, Option, Some, None}
use Rattle.std.specs.Borrow.{Bor}
use Rattle.std.specs.Option.{option_to_list}
use Rattle.c_tree.specs.declared.statement.Arm.{Arm, fold-Arm}
use Rattle.c_tree.specs.declared.statement.Statement.{Statement, out-Statement}
use Rattle.c_tree.specs.declared.statement.Statement.TheOpen.{Statement-F}
use Rattle.c_tree.specs.declared.statement.Target.{Target}
use Rattle.c_tree.specs.declared.statement.Target.TheVariants as target
use Rattle.c_language.specs.Code.{Sets, Bumps, Fetches, Writes, Prints, Allocates, Frees, Returns, Code, End, Opens, Plain, Fork, Loop, Leaves, Call, ◌⨟◌, is_true, either, leave, StatementPart, ArmPart, declared_in, in_turn, list_of, block, taken_arm, begun_code, part_step, arm_step, part}
use Rattle.c_machine.specs.declared.rests.Rest.{Rest}
use Rattle.c_machine.specs.declared.rests.Rest.TheVariants as rest

-- ---- lists and blocks before what comes after them

abbrev pub parts : List Statement → List StatementPart
parts ss = map part ss

abbrev pub list_before : List Statement → Code → Code
list_before ss k = in_turn (parts ss) k

-- the end of what statements declare
abbrev pub ends_before : List Statement → Code → Code
ends_before ss k = leave (declared_in (parts ss)) k

abbrev pub block_before : List Statement → Code → Code
block_before ss k = list_before ss (ends_before ss k)

-- a list that is a block of its own
abbrev pub block_in : List Statement → Code
block_in ss = block (parts ss)

abbrev pub arm_part : Arm → ArmPart
arm_part = fold-Arm StatementPart ArmPart part_step arm_step

-- ---- acts

-- what a turn of a for does: its body, and its step
abbrev pub turn_of : List Statement → Option Statement → Code
turn_of b s = block_in b ⨟ list_of (parts (option_to_list s))

-- the act of a statement, of a loop its test, before what comes after it; what has no act does nothing
abbrev pub act_of : Statement-F Statement Arm → Code → Code
act_of (Statement-F.Declare id l x init) k = begun_code id x init k
act_of (Statement-F.Assign id l left op right) k = Plain id (Sets left op right) k
act_of (Statement-F.Bump id l a up before) k = Plain id (Bumps a up) k
act_of (Statement-F.Invoke id l to f args) k = Call id to f args k
act_of (Statement-F.Fetch id l to) k = Plain id (Fetches to) k
act_of (Statement-F.Write id l e) k = Plain id (Writes e) k
act_of (Statement-F.Print id l format args) k = Plain id (Prints format args) k
act_of (Statement-F.Heap id l to cast n) k = Plain id (Allocates to n) k
act_of (Statement-F.Release id l e) k = Plain id (Frees e) k
act_of (Statement-F.If id l e a b) k = Fork id e (λ v. either (is_true v) (block_in a) (block_in b)) k
act_of (Statement-F.While id l e b) k = Loop id e (block_in b) k
act_of (Statement-F.Do id l e b) k = Loop id e (block_in b) k
act_of (Statement-F.For id l i e s b) k = Loop id e (turn_of b s) k
act_of (Statement-F.Switch id l e arms) k = Fork id e (taken_arm (map arm_part arms)) k
act_of (Statement-F.Block l b) k = k
act_of (Statement-F.Return id l e) k = Plain id (Returns e) k

abbrev pub act_code : Statement → Code → Code
act_code s = act_of (out-Statement s)

-- the variable that a call declares for its result begins before it
abbrev pub opened_for : Target → Code → Code
opened_for target.None k = k
opened_for (target.Place e) k = k
opened_for (target.Declared x) k = Opens x k

abbrev pub declared_for : Target → List ℕ
declared_for target.None = []
declared_for (target.Place e) = []
declared_for (target.Declared x) = x ∷ []

-- ---- pieces

abbrev pub rest_code : Rest → Code → Code
rest_code (rest.List ss) k = list_before ss.now k
rest_code (rest.Opens x) k = Opens x k
rest_code (rest.Act s) k = act_code s.now k
rest_code (rest.Leaves ss) k = ends_before ss.now k

-- pieces, of which the last one is done first, before what comes after them
abbrev pub left_before : List Rest → Code → Code
left_before [] k = k
left_before (r ∷ rs) k = left_before rs (rest_code r k)

abbrev pub left_code : List Rest → Code
left_code rs = left_before rs End

-- an act comes next
abbrev pub IsAct : Code → Type 0
IsAct End = ⊥
IsAct (Opens x k) = ⊥
IsAct (Plain i a k) = Unit {0}
IsAct (Fork i e c k) = Unit {0}
IsAct (Loop i e b k) = Unit {0}
IsAct (Leaves xs k) = ⊥
IsAct (Call i to f args k) = Unit {0}

-- the block of an arm that was found, or else other code
abbrev pub found_code : Option (Bor Arm) → Code → Code
found_code None other = other
found_code (Some a) other = block_in a.now.body

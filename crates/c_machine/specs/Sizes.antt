-- How many pieces can be done before the next act: each that is done leaves fewer.
use Rattle.std.specs.Prelude.{ℕ, ◌+◌, List, [], ◌∷◌, map, Option, Some, None}
use Rattle.c_tree.specs.declared.statement.Statement.{Statement, fold-Statement}
use Rattle.c_tree.specs.declared.statement.Statement.TheOpen.{Statement-F, Arm-F}
use Rattle.c_machine.specs.declared.rests.Rest.{Rest}
use Rattle.c_machine.specs.declared.rests.Rest.TheVariants as rest
use Rattle.c_machine.specs.declared.runs.Caller.{Caller}
use Rattle.c_machine.specs.declared.runs.Run.{Run}

abbrev pub total : List ℕ → ℕ
total [] = 0
total (n ∷ ns) = n + total ns

abbrev pub part_size : Option ℕ → ℕ
part_size None = 0
part_size (Some n) = n

-- one more than the pieces that a statement is taken apart into, with those of the lists that are done before its act
abbrev pub size_step : Statement-F ℕ ℕ → ℕ
size_step (Statement-F.Declare id l x init) = 3
size_step (Statement-F.Assign id l left op right) = 2
size_step (Statement-F.Bump id l a up before) = 2
size_step (Statement-F.Invoke id l to f args) = 3
size_step (Statement-F.Fetch id l to) = 3
size_step (Statement-F.Write id l e) = 2
size_step (Statement-F.Print id l format args) = 2
size_step (Statement-F.Heap id l to cast n) = 3
size_step (Statement-F.Release id l e) = 2
size_step (Statement-F.If id l e a b) = 2
size_step (Statement-F.While id l e b) = 2
size_step (Statement-F.Do id l e b) = 4 + total b
size_step (Statement-F.For id l i e s b) = 4 + part_size i
size_step (Statement-F.Switch id l e arms) = 2
size_step (Statement-F.Block l b) = 3 + total b
size_step (Statement-F.Return id l e) = 2

abbrev pub arm_size_step : Arm-F ℕ ℕ → ℕ
arm_size_step a = 0

abbrev pub size : Statement → ℕ
size = fold-Statement ℕ ℕ size_step arm_size_step

abbrev pub list_size : List Statement → ℕ
list_size ss = 1 + total (map size ss)

abbrev pub rest_size : Rest → ℕ
rest_size (rest.List ss) = list_size ss.now
rest_size (rest.Opens x) = 1
rest_size (rest.Act s) = 1
rest_size (rest.Leaves ss) = 1

abbrev pub left_size : List Rest → ℕ
left_size [] = 0
left_size (r ∷ rs) = rest_size r + left_size rs

abbrev pub callers_size : List Caller → ℕ
callers_size [] = 0
callers_size (c ∷ cs) = 1 + left_size c.left.items + callers_size cs

abbrev pub run_size : Run → ℕ
run_size r = left_size r.left.items + callers_size r.callers.items

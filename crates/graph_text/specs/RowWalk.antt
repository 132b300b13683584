-- What the walk down the tree tells of statements, one after another.
use Rattle.std.specs.Prelude.{List, [], ◌∷◌, ◌++◌, Option, Some, None}
use Rattle.std.specs.Option.{option_to_list}
use Rattle.c_tree.specs.declared.program.Function.{Function}
use Rattle.c_tree.specs.declared.program.Program.{Program}
use Rattle.c_tree.specs.declared.statement.Statement.{Statement, fold-Statement}
use Rattle.c_tree.specs.declared.statement.Statement.TheOpen.{Statement-F, Arm-F}
use Rattle.c_language.specs.TreeTypes.{pointee}
use Rattle.dep_model.specs.Locations.{target_type}
use Rattle.graph_text.specs.declared.rows.Row.{Row}
use Rattle.graph_text.specs.Rows.{plain, calling, allocating}

-- what is told of a statement itself; a bare block and a declaration without initialiser have no number
abbrev pub own_row : {A B : Type 0} → Program → Statement-F A B → Option Row
own_row p (Statement-F.Declare None l x i) = None
own_row p (Statement-F.Declare (Some id) l x i) = Some (plain l)
own_row p (Statement-F.Assign id l left op right) = Some (plain l)
own_row p (Statement-F.Bump id l a up before) = Some (plain l)
own_row p (Statement-F.Invoke id l to f args) = Some (calling l f)
own_row p (Statement-F.Fetch id l to) = Some (plain l)
own_row p (Statement-F.Write id l e) = Some (plain l)
own_row p (Statement-F.Print id l format args) = Some (plain l)
own_row p (Statement-F.Heap id l to cast n) = Some (allocating l (pointee (target_type p to)))
own_row p (Statement-F.Release id l e) = Some (plain l)
own_row p (Statement-F.If id l e a b) = Some (plain l)
own_row p (Statement-F.While id l e b) = Some (plain l)
own_row p (Statement-F.Do id l e b) = Some (plain l)
own_row p (Statement-F.For id l i e step b) = Some (plain l)
own_row p (Statement-F.Switch id l e arms) = Some (plain l)
own_row p (Statement-F.Block l b) = None
own_row p (Statement-F.Return id l e) = Some (plain l)

abbrev pub all : List (List Row) → List Row
all [] = []
all (r ∷ rs) = r ++ all rs

abbrev pub if_some : Option (List Row) → List Row
if_some None = []
if_some (Some r) = r

-- the rows of the statements inside a statement: a for's first part and step stand before its body
abbrev pub inner_rows : Statement-F (List Row) (List Row) → List Row
inner_rows (Statement-F.If id l e a b) = all a ++ all b
inner_rows (Statement-F.While id l e b) = all b
inner_rows (Statement-F.Do id l e b) = all b
inner_rows (Statement-F.For id l i e step b) = if_some i ++ (if_some step ++ all b)
inner_rows (Statement-F.Switch id l e arms) = all arms
inner_rows (Statement-F.Block l b) = all b
inner_rows _ = []

abbrev pub row_step : Program → Statement-F (List Row) (List Row) → List Row
row_step p x = option_to_list (own_row p x) ++ inner_rows x

abbrev pub arm_rows : Arm-F (List Row) (List Row) → List Row
arm_rows a = all a.body

-- a statement's row, and then those of the statements inside it
abbrev pub statement_rows : Program → Statement → List Row
statement_rows p = fold-Statement (List Row) (List Row) (row_step p) arm_rows

abbrev pub body_rows : Program → List Statement → List Row
body_rows p [] = []
body_rows p (s ∷ ss) = statement_rows p s ++ body_rows p ss

abbrev pub function_rows : Program → List Function → List Row
function_rows p [] = []
function_rows p (f ∷ fs) = body_rows p f.body ++ function_rows p fs

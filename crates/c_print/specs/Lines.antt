-- The line on which each statement begins in the layout of a program.
use Rattle.std.specs.Prelude.{ℕ, suc, ◌+◌, ◌==◌, List, [], ◌∷◌, ◌++◌, Bool, true, false, Option, Some, None, length, map, slice_get}
use Rattle.std.specs.Option.{option_map_or}
use Rattle.c_tree.specs.Numbered.{Starts, declared_start}
use Rattle.c_tree.specs.declared.program.Program.{Program}
use Rattle.c_tree.specs.declared.program.StructDef.{StructDef}
use Rattle.c_tree.specs.declared.program.Function.{Function}
use Rattle.c_tree.specs.declared.program.Item.{Item}
use Rattle.c_tree.specs.declared.program.Item.TheVariants.{Include, Tag, Struct, Global, Prototype, Define}
use Rattle.c_tree.specs.declared.statement.Statement.{Statement, fold-Statement}
use Rattle.c_tree.specs.declared.statement.Statement.TheOpen.{Statement-F, Arm-F}
use Rattle.c_tree.specs.declared.statement.Arm.{Arm, fold-Arm}

-- a statement as it is laid out: its own number, how many lines it has, and the numbered statements inside it with their lines, where it begins on the line that is given
pub record Placed : Type 0 where
  pub own : Option ℕ
  pub height : ℕ
  pub inside : ℕ → Starts

-- the numbered statements of a statement that begins on line n, itself first
abbrev pub starts_from : Placed → ℕ → Starts
starts_from s n = declared_start s.own n ++ s.inside n

abbrev pub heights : List Placed → ℕ
heights [] = 0
heights (s ∷ ss) = s.height + heights ss

-- the numbered statements of a list that begins on line n
abbrev pub block_starts : List Placed → ℕ → Starts
block_starts [] n = []
block_starts (s ∷ ss) n = starts_from s n ++ block_starts ss (n + s.height)

-- an else has a line of its own, where there is one
abbrev pub else_height : List Placed → ℕ
else_height [] = 0
else_height (s ∷ ss) = 1 + heights (s ∷ ss)

-- what is written in the head of a for stands on the line of the for
abbrev pub part_starts : Option Placed → ℕ → Starts
part_starts None n = []
part_starts (Some s) n = declared_start s.own n

abbrev pub simple : Option ℕ → Placed
simple id = record { own = id; height = 1; inside = λ n. [] }

-- a body with a line before it and a line behind it
abbrev pub enclosing : Option ℕ → List Placed → Placed
enclosing id b = record { own = id; height = 2 + heights b; inside = λ n. block_starts b (n + 1) }

abbrev pub placed_step : Statement-F Placed Placed → Placed
placed_step (Statement-F.Declare id l x i) = simple id
placed_step (Statement-F.Assign id l a op b) = simple (Some id)
placed_step (Statement-F.Bump id l a up before) = simple (Some id)
placed_step (Statement-F.Invoke id l to f args) = simple (Some id)
placed_step (Statement-F.Fetch id l to) = simple (Some id)
placed_step (Statement-F.Write id l e) = simple (Some id)
placed_step (Statement-F.Print id l format args) = simple (Some id)
placed_step (Statement-F.Heap id l to cast n) = simple (Some id)
placed_step (Statement-F.Release id l e) = simple (Some id)
placed_step (Statement-F.If id l e a b) = record {
  own = Some id;
  height = 2 + (heights a + else_height b);
  inside = λ n. block_starts a (n + 1) ++ block_starts b (n + 1 + heights a + 1);
}
placed_step (Statement-F.While id l e b) = enclosing (Some id) b
placed_step (Statement-F.Do id l e b) = enclosing (Some id) b
placed_step (Statement-F.For id l i e s b) = record {
  own = Some id;
  height = 2 + heights b;
  inside = λ n. part_starts i n ++ (part_starts s n ++ block_starts b (n + 1));
}
placed_step (Statement-F.Switch id l e arms) = enclosing (Some id) arms
placed_step (Statement-F.Block l b) = enclosing None b
placed_step (Statement-F.Return id l e) = simple (Some id)

-- an arm: a line for each label, its statements, and a line for its break
abbrev pub arm_placed_step : Arm-F Placed Placed → Placed
arm_placed_step a = record {
  own = None;
  height = length a.labels + heights a.body + 1;
  inside = λ n. block_starts a.body (n + length a.labels);
}

abbrev pub placed : Statement → Placed
placed = fold-Statement Placed Placed placed_step arm_placed_step

abbrev pub arm_placed : Arm → Placed
arm_placed = fold-Arm Placed Placed placed_step arm_placed_step

-- how many lines the statements have
abbrev pub body_height : List Statement → ℕ
body_height ss = heights (map placed ss)

-- the numbered statements of a body that begins on line n
abbrev pub body_starts : List Statement → ℕ → Starts
body_starts ss = block_starts (map placed ss)

-- lines without a numbered statement
abbrev pub bare : ℕ → Placed
bare n = record { own = None; height = n; inside = λ k. [] }

abbrev pub struct_placed : StructDef → Placed
struct_placed d = bare (2 + length d.members)

abbrev pub function_placed : Function → Placed
function_placed f = enclosing None (map placed f.body)

-- an item as it is laid out; a number that the program doesn't have gives no line
abbrev pub item_placed : Program → Item → Placed
item_placed p (Include is_stdlib) = bare 1
item_placed p (Tag s) = bare 1
item_placed p (Struct s) = option_map_or struct_placed (slice_get p.structs s) (bare 0)
item_placed p (Global x i) = bare 1
item_placed p (Prototype f names is_static) = option_map_or (λ (g : Function). bare 1) (slice_get p.functions f) (bare 0)
item_placed p (Define f) = option_map_or function_placed (slice_get p.functions f) (bare 0)

-- how many lines the layout of a program has
abbrev pub line_count : Program → ℕ
line_count p = heights (map (item_placed p) p.items)

-- the numbered statements of a program, each with the line on which it begins in the layout
abbrev pub layout_starts : Program → Starts
layout_starts p = block_starts (map (item_placed p) p.items) 1

abbrev pub line_if : Bool → ℕ → ℕ → ℕ
line_if true found before = found
line_if false found before = before

-- the line of the last of these with this number, or else the line that is given
abbrev pub line_among : ℕ → Starts → ℕ → ℕ
line_among id [] before = before
line_among id (s ∷ ss) before = line_among id ss (line_if (s.id == id) s.line before)

-- the line on which the statement with this number begins in the layout, and 0 where there is none
abbrev pub line_of : Program → ℕ → ℕ
line_of p id = line_among id (layout_starts p) 0

-- lines of numbers in a row from the first one: each that is among these is what it is there, and all else is as before
abbrev pub noted : ℕ → Starts → List ℕ → List ℕ
noted first ss [] = []
noted first ss (l ∷ ls) = line_among first ss l ∷ noted (suc first) ss ls

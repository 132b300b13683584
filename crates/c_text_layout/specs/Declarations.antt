-- Tests of the declarations of a text; the lists of initialisers that are short.
use Rattle.std.specs.Prelude.{◌≡◌, ◌&&◌, nat_lt, List, [], ◌∷◌, map, Bool, true}
use Rattle.c_tree.specs.declared.raw.expr.RawVar.{RawVar}
use Rattle.c_tree.specs.declared.raw.program.RawInit.{RawInit}
use Rattle.c_tree.specs.declared.raw.program.RawItem.{RawItem}
use Rattle.c_tree.specs.declared.raw.program.RawItem.TheVariants.{Include, Tag, Struct, Global, Prototype, Define}
use Rattle.c_tree.specs.declared.raw.program.RawProgram.{RawProgram}
use Rattle.c_tree.specs.declared.raw.statement.RawStatement.{RawStatement, fold-RawStatement}
use Rattle.c_tree.specs.declared.raw.statement.RawStatement.TheOpen.{RawStatement-F, RawArm-F}
use Rattle.c_language.specs.DeclaredTypes.{item_count}
use Rattle.c_language.specs.Lists.{if_there, all_true}

-- the declarations of a statement pass the test, given which of its parts' do
abbrev pub declares_step : (RawVar → RawInit → Bool) → RawStatement-F Bool Bool → Bool
declares_step test (RawStatement-F.Declare l v i) = test v i
declares_step test (RawStatement-F.Assign l a op b) = true
declares_step test (RawStatement-F.Bump l a up before) = true
declares_step test (RawStatement-F.Call l to f args) = true
declares_step test (RawStatement-F.Heap l to cast n) = true
declares_step test (RawStatement-F.If l a body other) = all_true body && all_true other
declares_step test (RawStatement-F.While l a b) = all_true b
declares_step test (RawStatement-F.Do l a b) = all_true b
declares_step test (RawStatement-F.For l i a step b) = if_there i && (if_there step && all_true b)
declares_step test (RawStatement-F.Switch l a arms) = all_true arms
declares_step test (RawStatement-F.Block l b) = all_true b
declares_step test (RawStatement-F.Return l a) = true

abbrev pub arm_declares : RawArm-F Bool Bool → Bool
arm_declares a = all_true a.body

-- each declaration of the statement passes the test
abbrev pub declarations_pass : (RawVar → RawInit → Bool) → RawStatement → Bool
declarations_pass test = fold-RawStatement Bool Bool (declares_step test) arm_declares

-- each declaration of the item passes the test
abbrev pub item_passes : (RawVar → RawInit → Bool) → RawItem → Bool
item_passes test (Include is_stdlib) = true
item_passes test (Tag l w) = true
item_passes test (Struct l w members) = true
item_passes test (Global l v i is_static) = test v i
item_passes test (Prototype l h) = true
item_passes test (Define l h body) = all_true (map (declarations_pass test) body)

-- each declaration of the items passes the test
abbrev pub items_pass : (RawVar → RawInit → Bool) → List RawItem → Bool
items_pass test [] = true
items_pass test (x ∷ xs) = item_passes test x && items_pass test xs

-- a list of initialisers has fewer than 2 to the 32 items
abbrev pub is_short : RawVar → RawInit → Bool
is_short v i = nat_lt (item_count i) 4294967296

-- each list of initialisers of the tree is short, so that its number of items can be written as a constant
abbrev pub HasShortLists : RawProgram → Type 0
HasShortLists raw = items_pass is_short raw.items ≡ true

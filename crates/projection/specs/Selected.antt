-- What stays by a selection: the parts that are kept, and the new numbers of statements, variables and functions.
use Rattle.std.specs.Prelude.{◌≡◌, ℕ, List, [], ◌∷◌, Bool, if◌then◌else◌, Option, Some, None, map}
use Rattle.bit_rows.specs.Sets.{has}
use Rattle.c_tree.specs.declared.expr.Expr.{Expr}
use Rattle.c_tree.specs.declared.program.Function.{Function}
use Rattle.c_tree.specs.declared.program.Item.{Item}
use Rattle.c_tree.specs.declared.program.Program.{Program}
use Rattle.c_tree.specs.declared.program.Var.{Var}
use Rattle.c_tree.specs.declared.statement.Arm.{Arm}
use Rattle.c_tree.specs.declared.statement.Statement.{Statement}
use Rattle.c_tree.specs.declared.statement.Statement.TheVariants as s
use Rattle.projection.specs.declared.parts.KeptParts.{KeptParts}
use Rattle.projection.specs.declared.statements.Selection.{Selection}
use Rattle.kept_numbers.specs.Ranks.{rank}
use Rattle.projection.specs.Kept.{Kept, chosen}
use Rattle.kept_numbers.specs.Pairs.{marked}
use Rattle.projection.specs.Renumbering.{renamed}
use Rattle.projection.specs.Projection.{if_so, first_statement, projected, projected_arm, projected_all, projected_item, projected_items, projected_vars, projected_function, projected_functions, projected_program, alone}

abbrev pub kept_by : Selection → Kept ℕ
kept_by c = record {
  variable = has c.variables;
  statement = has c.statements;
  result = has c.parts.now.results.items;
  argument = marked c.parts.now.arguments;
  function = has c.functions;
  parameter = marked c.parts.now.parameters;
  gives = has c.gives.now;
}

-- the selection of these parts, variables and functions that still give a result
pub record AreSelected (parts : KeptParts) (variables gives : List Bool) (c : Selection) : Type 0 where
  pub parts_are : c.parts.now ≡ parts
  pub statements : c.statements ≡ parts.statements.items
  pub variables_are : c.variables ≡ variables
  pub functions : c.functions ≡ parts.functions.items
  pub gives_are : c.gives.now ≡ gives

-- the new numbers of functions
abbrev pub numbers : Selection → ℕ → ℕ
numbers c = rank (has c.functions)

-- what stays of a statement, of a list of them, of a part of a for and of the arms of a switch
abbrev pub left : Selection → Statement → List Statement
left c = projected (kept_by c) (numbers c)

abbrev pub all_left : Selection → List Statement → List Statement
all_left c = projected_all (kept_by c) (numbers c)

abbrev pub part_left : Selection → Option Statement → Option Statement
part_left c None = None
part_left c (Some x) = first_statement (left c x)

abbrev pub arm_left : Selection → Arm → Arm
arm_left c = projected_arm (kept_by c) (numbers c)

abbrev pub arms_left : Selection → List Arm → List Arm
arms_left c = map (arm_left c)

-- what stays of the arguments of a call
abbrev pub arguments_left : Selection → ℕ → List Expr → List Expr
arguments_left c id args = map (renamed (rank (has c.variables))) (chosen (marked c.parts.now.arguments id) 0 args)

-- what stays of statements that hold others, where this stays of these
module _ (c : Selection) (id l : ℕ) where
  abbrev pub if_left : Expr → List Statement → List Statement → List Statement
  if_left a b d = if_so (has c.statements id) (s.If (rank (has c.statements) id) l (renamed (rank (has c.variables)) a) b d ∷ []) []

  abbrev pub while_left : Expr → List Statement → List Statement
  while_left a b = if_so (has c.statements id) (s.While (rank (has c.statements) id) l (renamed (rank (has c.variables)) a) b ∷ []) []

  abbrev pub do_left : Expr → List Statement → List Statement
  do_left a b = if_so (has c.statements id) (s.Do (rank (has c.statements) id) l (renamed (rank (has c.variables)) a) b ∷ []) []

  abbrev pub for_left : Option Statement → Expr → Option Statement → List Statement → List Statement
  for_left i a step b =
      if_so (has c.statements id) (s.For (rank (has c.statements) id) l i (renamed (rank (has c.variables)) a) step b ∷ []) (alone l i)

  abbrev pub switch_left : Expr → List Arm → List Statement
  switch_left a arms = if_so (has c.statements id) (s.Switch (rank (has c.statements) id) l (renamed (rank (has c.variables)) a) arms ∷ []) []

-- what stays of the parts of a program
abbrev pub item_left : Selection → Item → List Item
item_left c = projected_item (kept_by c)

abbrev pub items_left : Selection → List Item → List Item
items_left c = projected_items (kept_by c)

abbrev pub vars_left : Selection → ℕ → List Var → List Var
vars_left c = projected_vars (kept_by c) (numbers c)

abbrev pub params_left : Selection → ℕ → List ℕ → List ℕ
params_left c f xs = map (rank (has c.variables)) (chosen (marked c.parts.now.parameters f) 0 xs)

abbrev pub function_left : Selection → ℕ → Function → Function
function_left c = projected_function (kept_by c) (numbers c)

abbrev pub functions_left : Selection → ℕ → List Function → List Function
functions_left c = projected_functions (kept_by c)

abbrev pub program_left : Selection → Program → Program
program_left c = projected_program (kept_by c)

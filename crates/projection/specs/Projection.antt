-- The projection of a program to what is kept of it: the smaller program.
use Rattle.std.specs.Prelude.{ℕ, suc, Bool, true, false, List, [], ◌∷◌, ◌++◌, map, if◌then◌else◌, Option, Some, None, option_map}
use Rattle.c_tree.specs.declared.expr.Expr.{Expr}
use Rattle.c_tree.specs.declared.program.Init.{Init}
use Rattle.c_tree.specs.declared.program.Init.TheVariants as init
use Rattle.c_tree.specs.declared.program.Function.{Function}
use Rattle.c_tree.specs.declared.program.Var.{Var}
use Rattle.c_tree.specs.declared.program.Item.{Item}
use Rattle.c_tree.specs.declared.program.Program.{Program}
use Rattle.c_tree.specs.declared.program.Item.TheVariants as item
use Rattle.c_tree.specs.declared.statement.Target.{Target}
use Rattle.c_tree.specs.declared.statement.Target.TheVariants as target
use Rattle.c_tree.specs.declared.statement.Arm.{Arm, roll-Arm, fold-Arm}
use Rattle.c_tree.specs.declared.statement.Statement.{Statement, fold-Statement}
use Rattle.c_tree.specs.declared.statement.Statement.TheOpen.{Statement-F, Arm-F}
use Rattle.c_tree.specs.declared.statement.Statement.TheVariants as s
use Rattle.projection.specs.Renumbering.{renamed, renamed_init, renamed_target, renamed_amount, renamed_label}
use Rattle.kept_numbers.specs.Ranks.{rank}
use Rattle.projection.specs.Kept.{Kept, chosen}

-- a choice of lists
abbrev pub if_so : {A : Type 0} → Bool → List A → List A → List A
if_so true xs ys = xs
if_so false xs ys = ys

abbrev pub flat : {A : Type 0} → List (List A) → List A
flat [] = []
flat (xs ∷ rest) = xs ++ flat rest

-- whether a target declares, and whether a statement does
abbrev pub declares_target : Target → Bool
declares_target target.None = false
declares_target (target.Place a) = false
declares_target (target.Declared x) = true

abbrev pub declaring_step : Statement-F Bool Bool → Bool
declaring_step (Statement-F.Declare id l x i) = true
declaring_step (Statement-F.Invoke id l to f args) = declares_target to
declaring_step (Statement-F.Fetch id l to) = declares_target to
declaring_step (Statement-F.Heap id l to cast n) = declares_target to
declaring_step _ = false

abbrev pub declaring_arm : Arm-F Bool Bool → Bool
declaring_arm a = false

abbrev pub is_declaring : Statement → Bool
is_declaring = fold-Statement Bool Bool declaring_step declaring_arm

-- the first statement of what stays of a part of a for
abbrev pub first_statement : List Statement → Option Statement
first_statement [] = None
first_statement (x ∷ xs) = Some x

abbrev pub part_of : Option (List Statement) → Option Statement
part_of None = None
part_of (Some xs) = first_statement xs

-- what a for begins with, without the for: where it declares, in a block of its own
abbrev pub alone : ℕ → Option Statement → List Statement
alone l None = []
alone l (Some x) = if_so (is_declaring x) (s.Block l (x ∷ []) ∷ []) (x ∷ [])

-- a block that isn't empty
abbrev pub block_of : ℕ → List Statement → List Statement
block_of l [] = []
block_of l (x ∷ xs) = s.Block l (x ∷ xs) ∷ []

-- what stays of statements, where functions have these numbers
module _ {F : Type 0} (k : Kept F) (g : ℕ → ℕ) where
  -- a declaration without its initialiser, where its variable stays
  abbrev pub bare : ℕ → ℕ → List Statement
  bare l x = if_so (k.variable x) (s.Declare None l (rank k.variable x) init.None ∷ []) []

  abbrev pub bare_target : ℕ → Target → List Statement
  bare_target l target.None = []
  bare_target l (target.Place a) = []
  bare_target l (target.Declared x) = bare l x

  abbrev pub projected_declaration : Option ℕ → ℕ → ℕ → Init → List Statement
  projected_declaration None l x i = bare l x
  projected_declaration (Some id) l x i =
      if_so (k.statement id) (s.Declare (Some (rank k.statement id)) l (rank k.variable x) (renamed_init (rank k.variable) i) ∷ []) (bare l x)

  -- a call with the arguments that it keeps
  abbrev pub called : ℕ → ℕ → Target → ℕ → List Expr → Statement
  called id l to f args = s.Invoke (rank k.statement id) l to (g f) (map (renamed (rank k.variable)) (chosen (k.argument id) 0 args))

  -- a call that is kept: with its left side, or behind the variable that it declared, where that stays
  abbrev pub projected_call : ℕ → ℕ → Target → ℕ → List Expr → List Statement
  projected_call id l to f args =
      if_so (k.result id) (called id l (renamed_target (rank k.variable) to) f args ∷ []) (bare_target l to ++ (called id l target.None f args ∷ []))

  abbrev pub projected_step : Statement-F (List Statement) Arm → List Statement
  projected_step (Statement-F.Declare id l x i) = projected_declaration id l x i
  projected_step (Statement-F.Assign id l left op right) =
      if_so (k.statement id) (s.Assign (rank k.statement id) l (renamed (rank k.variable) left) op (renamed (rank k.variable) right) ∷ []) []
  projected_step (Statement-F.Bump id l a up before) = if_so (k.statement id) (s.Bump (rank k.statement id) l (renamed (rank k.variable) a) up before ∷ []) []
  projected_step (Statement-F.Invoke id l to f args) = if_so (k.statement id) (projected_call id l to f args) (bare_target l to)
  projected_step (Statement-F.Fetch id l to) = if_so (k.statement id) (s.Fetch (rank k.statement id) l (renamed_target (rank k.variable) to) ∷ []) (bare_target l to)
  projected_step (Statement-F.Write id l a) = if_so (k.statement id) (s.Write (rank k.statement id) l (renamed (rank k.variable) a) ∷ []) []
  projected_step (Statement-F.Print id l format args) = if_so (k.statement id) (s.Print (rank k.statement id) l format (map (renamed (rank k.variable)) args) ∷ []) []
  projected_step (Statement-F.Heap id l to cast n) =
      if_so (k.statement id) (s.Heap (rank k.statement id) l (renamed_target (rank k.variable) to) cast (renamed_amount (rank k.variable) n) ∷ []) (bare_target l to)
  projected_step (Statement-F.Release id l a) = if_so (k.statement id) (s.Release (rank k.statement id) l (renamed (rank k.variable) a) ∷ []) []
  projected_step (Statement-F.If id l a b c) = if_so (k.statement id) (s.If (rank k.statement id) l (renamed (rank k.variable) a) (flat b) (flat c) ∷ []) []
  projected_step (Statement-F.While id l a b) = if_so (k.statement id) (s.While (rank k.statement id) l (renamed (rank k.variable) a) (flat b) ∷ []) []
  projected_step (Statement-F.Do id l a b) = if_so (k.statement id) (s.Do (rank k.statement id) l (renamed (rank k.variable) a) (flat b) ∷ []) []
  projected_step (Statement-F.For id l i a step b) =
      if_so (k.statement id) (s.For (rank k.statement id) l (part_of i) (renamed (rank k.variable) a) (part_of step) (flat b) ∷ []) (alone l (part_of i))
  projected_step (Statement-F.Switch id l a arms) = if_so (k.statement id) (s.Switch (rank k.statement id) l (renamed (rank k.variable) a) arms ∷ []) []
  projected_step (Statement-F.Block l b) = block_of l (flat b)
  projected_step (Statement-F.Return id l a) = if_so (k.statement id) (s.Return (rank k.statement id) l (option_map (renamed (rank k.variable)) a) ∷ []) []

  abbrev pub projected_arm_step : Arm-F (List Statement) Arm → Arm
  projected_arm_step a = roll-Arm (record { labels = map (renamed_label (rank k.variable)) a.labels; body = flat a.body })

  -- what stays of a statement
  abbrev pub projected : Statement → List Statement
  projected = fold-Statement (List Statement) Arm projected_step projected_arm_step

  -- what stays of an arm of a switch that stays
  abbrev pub projected_arm : Arm → Arm
  projected_arm = fold-Arm (List Statement) Arm projected_step projected_arm_step

  abbrev pub projected_all : List Statement → List Statement
  projected_all xs = flat (map projected xs)

  -- what stays of a function that stays
  abbrev pub projected_function : F → Function → Function
  projected_function f c = record c {
    result = if k.gives f then c.result else None;
    params = map (rank k.variable) (chosen (k.parameter f) 0 c.params);
    body = projected_all c.body;
  }

  -- a variable in a function with another number
  abbrev pub projected_var : Var → Var
  projected_var v = record v { owner = option_map g v.owner }

  -- the variables that stay, the first of which has this number
  abbrev pub projected_vars : ℕ → List Var → List Var
  projected_vars n [] = []
  projected_vars n (v ∷ vs) = if_so (k.variable n) (projected_var v ∷ projected_vars (suc n) vs) (projected_vars (suc n) vs)

-- what stays of a program, of which each function has its number
module _ (k : Kept ℕ) where
  -- what stays of an item: of a prototype, the names of the parameters that stay
  abbrev pub projected_item : Item → List Item
  projected_item (item.Include is_stdlib) = item.Include is_stdlib ∷ []
  projected_item (item.Tag d) = item.Tag d ∷ []
  projected_item (item.Struct d) = item.Struct d ∷ []
  projected_item (item.Global x i) = if_so (k.variable x) (item.Global (rank k.variable x) (renamed_init (rank k.variable) i) ∷ []) []
  projected_item (item.Prototype f names is_static) =
      if_so (k.function f) (item.Prototype (rank k.function f) (chosen (k.parameter f) 0 names) is_static ∷ []) []
  projected_item (item.Define f) = if_so (k.function f) (item.Define (rank k.function f) ∷ []) []

  abbrev pub projected_items : List Item → List Item
  projected_items xs = flat (map projected_item xs)

  -- the functions that stay, the first of which has this number
  abbrev pub projected_functions : ℕ → List Function → List Function
  projected_functions n [] = []
  projected_functions n (c ∷ rest) =
      if_so (k.function n) (projected_function k (rank k.function) n c ∷ projected_functions (suc n) rest) (projected_functions (suc n) rest)

  abbrev pub projected_program : Program → Program
  projected_program p = record {
    items = projected_items p.items;
    vars = projected_vars k (rank k.function) 0 p.vars;
    structs = p.structs;
    functions = projected_functions 0 p.functions;
    statements = rank k.statement p.statements;
  }

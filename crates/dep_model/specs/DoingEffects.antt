-- What the statements of a program may define, may use and kill, and the variables whose addresses are taken.
use Rattle.std.specs.Prelude.{ℕ, List, [], Bool, false, not, ◌&&◌, ◌||◌, Option, Some, None, slice_get, is_none}
use Rattle.std.specs.List.{list_any}
use Rattle.std.specs.Option.{option_map_or}
use Rattle.c_arith.specs.declared.operators.BinaryOp.{BinaryOp}
use Rattle.c_tree.specs.declared.expr.Expr.{Expr}
use Rattle.c_tree.specs.declared.program.Function.{Function}
use Rattle.c_tree.specs.declared.program.Init.{Init}
use Rattle.c_tree.specs.declared.program.Init.TheVariants as init
use Rattle.c_tree.specs.declared.program.Program.{Program}
use Rattle.c_tree.specs.declared.program.Var.{Var}
use Rattle.c_tree.specs.declared.statement.Amount.{Amount}
use Rattle.c_tree.specs.declared.statement.Amount.TheVariants as amount
use Rattle.c_tree.specs.declared.statement.Target.{Target}
use Rattle.c_tree.specs.declared.statement.Target.TheVariants as target
use Rattle.c_language.specs.Code.{Act, Begins, Sets, Bumps, Fetches, Writes, Prints, Allocates, Frees, Returns, Tests}
use Rattle.dep_model.specs.declared.location.Location.{Location}
use Rattle.dep_model.specs.declared.location.Root.TheVariants.{Input, Result}
use Rattle.dep_model.specs.declared.location.Part.TheVariants as part
use Rattle.dep_model.specs.Locations.{same_location}
use Rattle.dep_model.specs.Designated.{designated, value_takes}
use Rattle.dep_model.specs.Denoted.{Places, TargetsOf, whole, part_of, expr_reads, expr_places, left_reads}
use Rattle.dep_model.specs.Doings.{Doing, Does, Calls, body_doings}

-- the unread input, and what a function returns
abbrev pub the_input : Location
the_input = record { root = Input; path = [] }

abbrev pub result_of : ℕ → Location
result_of f = record { root = Result f; path = [] }

-- ---- addresses that are taken

module _ (p : Program) where
  abbrev pub expr_takes : Expr → ℕ → Bool
  expr_takes e = value_takes (designated p e)

  -- an object that is set isn't taken as a value
  abbrev pub left_takes : Expr → ℕ → Bool
  left_takes e = (designated p e).takes

  abbrev pub any_takes : List Expr → ℕ → Bool
  any_takes es x = list_any (λ (e : Expr). expr_takes e x) es

  abbrev pub maybe_takes : Option Expr → ℕ → Bool
  maybe_takes None x = false
  maybe_takes (Some e) x = expr_takes e x

  abbrev pub init_takes : Init → ℕ → Bool
  init_takes init.None x = false
  init_takes (init.One e) x = expr_takes e x
  init_takes (init.Items es) x = any_takes es x

  abbrev pub target_takes : Target → ℕ → Bool
  target_takes target.None x = false
  target_takes (target.Place e) x = left_takes e x
  target_takes (target.Declared y) x = false

  abbrev pub amount_takes : Amount → ℕ → Bool
  amount_takes (amount.Size t) x = false
  amount_takes (amount.CountSize e t) x = expr_takes e x
  amount_takes (amount.SizeCount t e) x = expr_takes e x
  amount_takes (amount.Count e) x = expr_takes e x

  abbrev pub act_takes : Act → ℕ → Bool
  act_takes (Begins y i) x = init_takes i x
  act_takes (Sets left op right) x = left_takes left x || expr_takes right x
  act_takes (Bumps left up) x = left_takes left x
  act_takes (Fetches to) x = target_takes to x
  act_takes (Writes e) x = expr_takes e x
  act_takes (Prints format args) x = any_takes args x
  act_takes (Allocates to n) x = target_takes to x || amount_takes n x
  act_takes (Frees e) x = expr_takes e x
  act_takes (Returns e) x = maybe_takes e x
  act_takes (Tests e) x = expr_takes e x

  abbrev pub doing_takes : Doing → ℕ → Bool
  doing_takes (Does i a) x = act_takes a x
  doing_takes (Calls i to f args) x = target_takes to x || any_takes args x

  abbrev pub function_takes : Function → ℕ → Bool
  function_takes f x = list_any (λ (d : Doing). doing_takes d x) (body_doings f.body)

  -- the address of a variable is taken somewhere in the program; no initialiser of a global takes one
  abbrev pub is_taken : ℕ → Bool
  is_taken x = list_any (λ (f : Function). function_takes f x) p.functions

  abbrev pub is_global : ℕ → Bool
  is_global x = option_map_or (λ (v : Var). is_none v.owner) (slice_get p.vars x) false

  -- an assignment to the name kills: a global has one object, and any other variable is reached by its name alone where
  -- its address is never taken
  abbrev pub is_killable : ℕ → Bool
  is_killable x = is_global x || not (is_taken x)

module _ (p : Program) (points : TargetsOf) where
  -- ---- left sides

  -- a left side kills what it names, where it is a name with `.` selections alone
  abbrev pub named_kills : Option ℕ → Places → Places
  named_kills None places l = false
  named_kills (Some x) places l = is_killable p x && places l

  abbrev pub left_kills : Expr → Places
  left_kills e = named_kills (designated p e).name (expr_places p points e)

  abbrev pub any_reads : List Expr → Places
  any_reads es l = list_any (λ (e : Expr). expr_reads p points e l) es

  abbrev pub maybe_reads : Option Expr → Places
  maybe_reads None l = false
  maybe_reads (Some e) l = expr_reads p points e l

  abbrev pub target_reads : Target → Places
  target_reads target.None l = false
  target_reads (target.Place e) l = left_reads p points e l
  target_reads (target.Declared x) l = false

  abbrev pub target_places : Target → Places
  target_places target.None l = false
  target_places (target.Place e) l = expr_places p points e l
  target_places (target.Declared x) l = whole x l

  abbrev pub target_kills : Target → Places
  target_kills target.None l = false
  target_kills (target.Place e) l = left_kills e l
  target_kills (target.Declared x) l = is_killable p x && whole x l

  abbrev pub amount_reads : Amount → Places
  amount_reads (amount.Size t) l = false
  amount_reads (amount.CountSize e t) l = expr_reads p points e l
  amount_reads (amount.SizeCount t e) l = expr_reads p points e l
  amount_reads (amount.Count e) l = expr_reads p points e l

  -- ---- acts, in a function

  abbrev pub init_reads : Init → Places
  init_reads init.None l = false
  init_reads (init.One e) l = expr_reads p points e l
  init_reads (init.Items es) l = any_reads es l

  -- a list sets the elements of its array
  abbrev pub init_places : ℕ → Init → Places
  init_places x init.None l = false
  init_places x (init.One e) l = whole x l
  init_places x (init.Items es) l = part_of p part.Element (whole x) l

  abbrev pub compound_reads : Option BinaryOp → Expr → Places
  compound_reads None left l = false
  compound_reads (Some op) left l = expr_places p points left l

  -- `return;` gives no result
  abbrev pub returned_places : ℕ → Option Expr → Places
  returned_places f None l = false
  returned_places f (Some e) l = same_location (result_of f) l

  abbrev pub act_uses : Act → Places
  act_uses (Begins x i) l = init_reads i l
  act_uses (Sets left op right) l = left_reads p points left l || (compound_reads op left l || expr_reads p points right l)
  act_uses (Bumps left up) l = left_reads p points left l || expr_places p points left l
  act_uses (Fetches to) l = same_location the_input l || target_reads to l
  act_uses (Writes e) l = expr_reads p points e l
  act_uses (Prints format args) l = any_reads args l
  act_uses (Allocates to n) l = target_reads to l || amount_reads n l
  act_uses (Frees e) l = expr_reads p points e l
  act_uses (Returns e) l = maybe_reads e l
  act_uses (Tests e) l = expr_reads p points e l

  abbrev pub act_defines : ℕ → Act → Places
  act_defines f (Begins x i) l = init_places x i l
  act_defines f (Sets left op right) l = expr_places p points left l
  act_defines f (Bumps left up) l = expr_places p points left l
  act_defines f (Fetches to) l = same_location the_input l || target_places to l
  act_defines f (Writes e) l = false
  act_defines f (Prints format args) l = false
  act_defines f (Allocates to n) l = target_places to l
  act_defines f (Frees e) l = false
  act_defines f (Returns e) l = returned_places f e l
  act_defines f (Tests e) l = false

  abbrev pub act_kills : ℕ → Act → Places
  act_kills f (Begins x i) l = is_killable p x && init_places x i l
  act_kills f (Sets left op right) l = left_kills left l
  act_kills f (Bumps left up) l = left_kills left l
  act_kills f (Fetches to) l = same_location the_input l || target_kills to l
  act_kills f (Writes e) l = false
  act_kills f (Prints format args) l = false
  act_kills f (Allocates to n) l = target_kills to l
  act_kills f (Frees e) l = false
  act_kills f (Returns e) l = returned_places f e l
  act_kills f (Tests e) l = false

  -- ---- statements

  abbrev pub doing_uses : Doing → Places
  doing_uses (Does i a) l = act_uses a l
  doing_uses (Calls i to g args) l = any_reads args l || target_reads to l

  abbrev pub doing_defines : ℕ → Doing → Places
  doing_defines f (Does i a) l = act_defines f a l
  doing_defines f (Calls i to g args) l = target_places to l

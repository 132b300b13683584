-- What a statement does itself, without the statements in it, and what it defines, uses and kills so.
use Rattle.std.specs.Prelude.{ℕ, Bool, false, ◌&&◌, Option, Some, None}
use Rattle.c_tree.specs.declared.program.Init.{Init}
use Rattle.c_tree.specs.declared.program.Program.{Program}
use Rattle.c_tree.specs.declared.statement.Arm.{Arm}
use Rattle.c_tree.specs.declared.statement.Statement.{Statement, out-Statement}
use Rattle.c_tree.specs.declared.statement.Statement.TheOpen.{Statement-F}
use Rattle.c_language.specs.Code.{Begins, Sets, Bumps, Fetches, Writes, Prints, Allocates, Frees, Returns, Tests}
use Rattle.dep_model.specs.Denoted.{Places, TargetsOf, no_places}
use Rattle.dep_model.specs.DoingEffects.{is_killable, init_places, doing_takes, doing_uses, doing_defines, act_kills, target_kills}
use Rattle.dep_model.specs.Doings.{Doing, Does, Calls}

-- a declaration without an initialiser and a block do nothing themselves, and a choice or a loop tests
abbrev pub own_step : Statement-F Statement Arm → Option Doing
own_step (Statement-F.Declare None l x init) = None
own_step (Statement-F.Declare (Some id) l x init) = Some (Does id (Begins x init))
own_step (Statement-F.Assign id l left op right) = Some (Does id (Sets left op right))
own_step (Statement-F.Bump id l a up before) = Some (Does id (Bumps a up))
own_step (Statement-F.Invoke id l to f args) = Some (Calls id to f args)
own_step (Statement-F.Fetch id l to) = Some (Does id (Fetches to))
own_step (Statement-F.Write id l e) = Some (Does id (Writes e))
own_step (Statement-F.Print id l format args) = Some (Does id (Prints format args))
own_step (Statement-F.Heap id l to cast n) = Some (Does id (Allocates to n))
own_step (Statement-F.Release id l e) = Some (Does id (Frees e))
own_step (Statement-F.If id l e a b) = Some (Does id (Tests e))
own_step (Statement-F.While id l e b) = Some (Does id (Tests e))
own_step (Statement-F.Do id l e b) = Some (Does id (Tests e))
own_step (Statement-F.For id l i e s b) = Some (Does id (Tests e))
own_step (Statement-F.Switch id l e arms) = Some (Does id (Tests e))
own_step (Statement-F.Block l b) = None
own_step (Statement-F.Return id l e) = Some (Does id (Returns e))

abbrev pub own_doing : Statement → Option Doing
own_doing s = own_step (out-Statement s)

module _ (p : Program) where
  abbrev pub takes_of : Option Doing → ℕ → Bool
  takes_of None x = false
  takes_of (Some d) x = doing_takes p d x

  -- the variables whose addresses it takes
  abbrev pub own_takes : Statement → ℕ → Bool
  own_takes s = takes_of (own_doing s)

module _ (p : Program) (points : TargetsOf) where
  -- what an initialiser kills
  abbrev pub init_kills : ℕ → Init → Places
  init_kills x i l = is_killable p x && init_places p points x i l

  abbrev pub uses_of : Option Doing → Places
  uses_of None = no_places
  uses_of (Some d) = doing_uses p points d

  abbrev pub defines_of : ℕ → Option Doing → Places
  defines_of f None = no_places
  defines_of f (Some d) = doing_defines p points f d

  -- a call itself kills what its result is stored in
  abbrev pub kills_of : ℕ → Option Doing → Places
  kills_of f None = no_places
  kills_of f (Some (Does i a)) = act_kills p points f a
  kills_of f (Some (Calls i to g args)) = target_kills p points to

  -- what a statement itself may use
  abbrev pub own_uses : Statement → Places
  own_uses s = uses_of (own_doing s)

  -- what a statement of function f itself may define
  abbrev pub own_defines : ℕ → Statement → Places
  own_defines f s = defines_of f (own_doing s)

  -- what it kills
  abbrev pub own_kills : ℕ → Statement → Places
  own_kills f s = kills_of f (own_doing s)

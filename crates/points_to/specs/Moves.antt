-- The statements of a program that may store a pointer.
use Rattle.std.specs.Prelude.{◌≡◌, ◌⊎◌, ℕ, zero, suc, List, [], ◌∷◌, ◌++◌, Bool, true, false, ◌||◌, if◌then◌else◌, Option, Some, None, Contains, slice_get}
use Rattle.std.specs.List.{list_any}
use Rattle.c_tree.specs.declared.expr.Expr.{Expr}
use Rattle.c_tree.specs.declared.program.Init.{Init}
use Rattle.c_tree.specs.declared.program.Init.TheVariants as init
use Rattle.c_tree.specs.declared.program.Program.{Program}
use Rattle.c_tree.specs.declared.statement.Statement.{Statement}
use Rattle.c_language.specs.Code.{Act, Begins, Sets, Bumps, Fetches, Writes, Prints, Allocates, Frees, Returns, Tests}
use Rattle.c_language.specs.ExprTypes.{is_pointer, is_array}
use Rattle.c_language.specs.TreeTypes.{tree_type}
use Rattle.dep_model.specs.Doings.{Doing, Does, Calls, doings_of}
use Rattle.dep_model.specs.declared.location.Location.{Location}
use Rattle.dep_model.specs.Denoted.{TargetsOf}
use Rattle.dep_model.specs.MayPoint.{Pointing, doing_pointings}
use Rattle.effect_rows.specs.Own.{own_doing}
use Rattle.points_to.specs.declared.moves.Move.{Move}

-- a value is a pointer by its type, or an array, which turns into one
abbrev pub is_pointer_value : Program → Expr → Bool
is_pointer_value p e = is_pointer (tree_type p e) || is_array (tree_type p e)

abbrev pub init_has_pointer : Program → Init → Bool
init_has_pointer p init.None = false
init_has_pointer p (init.One e) = is_pointer_value p e
init_has_pointer p (init.Items es) = list_any (is_pointer_value p) es

abbrev pub gives_pointer : Program → Option Expr → Bool
gives_pointer p None = false
gives_pointer p (Some e) = is_pointer_value p e

-- a statement may store a pointer; a call does so by its result, or to a parameter
abbrev pub act_stores : Program → Act → Bool
act_stores p (Begins x i) = init_has_pointer p i
act_stores p (Sets left op right) = is_pointer_value p right
act_stores p (Bumps left up) = false
act_stores p (Fetches to) = false
act_stores p (Writes e) = false
act_stores p (Prints format args) = false
act_stores p (Allocates to n) = true
act_stores p (Frees e) = false
act_stores p (Returns e) = gives_pointer p e
act_stores p (Tests e) = false

abbrev pub stores_pointer : Program → Doing → Bool
stores_pointer p (Does i a) = act_stores p a
stores_pointer p (Calls i to g args) = true

abbrev pub may_store : Program → Option Doing → Bool
may_store p None = false
may_store p (Some d) = stores_pointer p d

abbrev pub own_stores : Program → Statement → Bool
own_stores p s = may_store p (own_doing s)

-- what a statement of a function does
pub record Told : Type 0 where
  pub function : ℕ
  pub does : Option Doing

abbrev pub told : Move → Told
told m = record { function = m.function; does = own_doing m.statement.now }

-- those of the statements of a function that may store a pointer
abbrev pub storing : Program → ℕ → List Doing → List Told
storing p f [] = []
storing p f (d ∷ ds) = if stores_pointer p d then record { function = f; does = Some d } ∷ storing p f ds else storing p f ds

-- those of the first functions of a program
abbrev pub storing_below : Program → ℕ → List Told
storing_below p zero = []
storing_below p (suc n) = storing_below p n ++ storing p n (doings_of p n)

-- a statement of the list does it
pub record IsMove (moves : List Move) (f : ℕ) (d : Doing) : Type 0 where
  pub place : ℕ
  pub move : Move
  pub at : slice_get moves place ≡ Some move
  pub in_function : move.function ≡ f
  pub does : own_doing move.statement.now ≡ Some d

-- its pointings point nowhere
abbrev pub PointsNowhere : Program → ℕ → Doing → Type 0
PointsNowhere p f d = (points : TargetsOf) (a : Pointing) → Contains (doing_pointings p points f d) a → (m : Location) → a.from m ≡ true → ⊥

-- the statements of the program that may store a pointer
pub record AreMoves (p : Program) (moves : List Move) : Type 0 where
  pub only : (k : ℕ) (m : Move) (d : Doing) → slice_get moves k ≡ Some m → own_doing m.statement.now ≡ Some d → Contains (doings_of p m.function) d
  pub whole : (f : ℕ) (d : Doing) → Contains (doings_of p f) d → IsMove moves f d ⊎ PointsNowhere p f d

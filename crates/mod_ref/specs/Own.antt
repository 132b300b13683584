-- What the functions of a program do themselves, and the calls among them.
use Rattle.std.specs.Prelude.{◌≡◌, ◌<◌, ◌↔◌, ◌⊎◌, ℕ, List, [], ◌∷◌, ◌++◌, length, Option, Some, None, Contains, slice_get}
use Rattle.std.specs.List.{list_any}
use Rattle.bit_rows.specs.Sets.{has}
use Rattle.bit_rows.specs.Tables.{IsSized, Holds, the_set}
use Rattle.c_tree.specs.declared.expr.Expr.{Expr}
use Rattle.c_tree.specs.declared.program.Program.{Program}
use Rattle.c_tree.specs.declared.statement.Arm.{Arm}
use Rattle.c_tree.specs.declared.statement.Statement.{Statement, out-Statement}
use Rattle.c_tree.specs.declared.statement.Statement.TheOpen.{Statement-F}
use Rattle.c_tree.specs.declared.statement.Target.{Target}
use Rattle.dep_model.specs.declared.points_to.PointsTo.{PointsTo}
use Rattle.dep_model.specs.Denoted.{Places, TargetsOf}
use Rattle.dep_model.specs.DoingEffects.{doing_uses, doing_defines}
use Rattle.dep_model.specs.Doings.{Doing, Does, Calls, doings, body_doings, doings_of}
use Rattle.dep_model.specs.LocationRows.{points_of, HasPointsRows}
use Rattle.dep_model.specs.Locations.{TypedLocation, locations}
use Rattle.effect_rows.specs.Laws.{GainsByPlace}
use Rattle.effect_rows.specs.Own.{own_doing}
use Rattle.mod_ref.specs.declared.own.Own.{Own}
use Rattle.rule_closure.specs.declared.closure.Rule.{Rule}

-- ---- the statements of a statement

abbrev pub one_of : Option Doing → List Doing
one_of None = []
one_of (Some d) = d ∷ []

-- the statement itself, where it does something
abbrev pub own_doings : Statement → List Doing
own_doings s = one_of (own_doing s)

abbrev pub arms_doings : List Arm → List Doing
arms_doings [] = []
arms_doings (a ∷ as_) = body_doings a.body ++ arms_doings as_

abbrev pub part_doings : Option Statement → List Doing
part_doings None = []
part_doings (Some s) = doings s

abbrev pub inside_step : Statement-F Statement Arm → List Doing
inside_step (Statement-F.Declare id l x init) = []
inside_step (Statement-F.Assign id l left op right) = []
inside_step (Statement-F.Bump id l a up before) = []
inside_step (Statement-F.Invoke id l to f args) = []
inside_step (Statement-F.Fetch id l to) = []
inside_step (Statement-F.Write id l e) = []
inside_step (Statement-F.Print id l format args) = []
inside_step (Statement-F.Heap id l to cast n) = []
inside_step (Statement-F.Release id l e) = []
inside_step (Statement-F.If id l e a b) = body_doings a ++ body_doings b
inside_step (Statement-F.While id l e b) = body_doings b
inside_step (Statement-F.Do id l e b) = body_doings b
inside_step (Statement-F.For id l i e s b) = part_doings i ++ (part_doings s ++ body_doings b)
inside_step (Statement-F.Switch id l e arms) = arms_doings arms
inside_step (Statement-F.Block l b) = body_doings b
inside_step (Statement-F.Return id l e) = []

-- the statements in it
abbrev pub inside_doings : Statement → List Doing
inside_doings s = inside_step (out-Statement s)

abbrev pub last_step : Statement-F Statement Arm → List Doing
last_step (Statement-F.Declare id l x init) = []
last_step (Statement-F.Assign id l left op right) = []
last_step (Statement-F.Bump id l a up before) = []
last_step (Statement-F.Invoke id l to f args) = []
last_step (Statement-F.Fetch id l to) = []
last_step (Statement-F.Write id l e) = []
last_step (Statement-F.Print id l format args) = []
last_step (Statement-F.Heap id l to cast n) = []
last_step (Statement-F.Release id l e) = []
last_step (Statement-F.If id l e a b) = body_doings b
last_step (Statement-F.While id l e b) = []
last_step (Statement-F.Do id l e b) = []
last_step (Statement-F.For id l i e s b) = body_doings b
last_step (Statement-F.Switch id l e arms) = []
last_step (Statement-F.Block l b) = []
last_step (Statement-F.Return id l e) = []

-- the statements in the last of several parts: an else, or the body of a for
abbrev pub last_doings : Statement → List Doing
last_doings s = last_step (out-Statement s)

abbrev pub callee_of : Option Doing → Option ℕ
callee_of None = None
callee_of (Some (Does i a)) = None
callee_of (Some (Calls i to g args)) = Some g

-- ---- calls as rules

-- what holds of the function called holds of the calling one
abbrev pub call_rule : ℕ → ℕ → Rule
call_rule f g = record { first = g; second = g; gives = f }

-- the rule of a call among some statements of function f, of one of n functions
pub record IsCallIn (n f : ℕ) (ds : List Doing) (r : Rule) : Type 0 where
  pub id : ℕ
  pub target : Target
  pub callee : ℕ
  pub args : List Expr
  pub member : Contains ds (Calls id target callee args)
  pub callee_in : callee < n
  pub rule_is : call_rule f callee ≡ r

abbrev pub AreCallsAdded : ℕ → ℕ → List Doing → List Rule → List Rule → Type 0
AreCallsAdded n f ds old new = (r : Rule) → Contains new r ↔ (Contains old r ⊎ IsCallIn n f ds r)

-- ---- the walk

-- some of these statements of function f may define the location
abbrev pub any_defines : Program → TargetsOf → ℕ → List Doing → Places
any_defines p points f ds l = list_any (λ (d : Doing). doing_defines p points f d l) ds

-- some of these statements may use it
abbrev pub any_uses : Program → TargetsOf → List Doing → Places
any_uses p points ds l = list_any (λ (d : Doing). doing_uses p points d l) ds

abbrev pub points_in : Own → TargetsOf
points_in w = points_of w.effects w.points.now

-- the rows have their sizes
pub record HasOwnRows (w : Own) : Type 0 where
  pub functions_are : w.functions ≡ length w.effects.functions
  pub points_are : HasPointsRows w.effects w.points.now
  pub modified_sized : IsSized (length w.effects.functions) (length (locations w.effects)) w.modified
  pub used_sized : IsSized (length w.effects.functions) (length (locations w.effects)) w.used

-- nothing but rows and calls has changed
pub record IsOnWalk (old new : Own) : Type 0 where
  pub rows : HasOwnRows new
  pub program_is : new.effects ≡ old.effects
  pub points_is : new.points ≡ old.points
  pub functions_is : new.functions ≡ old.functions

-- what these statements of function f do is added
pub record IsAdded (f : ℕ) (ds : List Doing) (old new : Own) : Type 0 where
  pub on : IsOnWalk old new
  pub modified : GainsByPlace old.effects f (any_defines old.effects (points_in old) f ds) old.modified new.modified
  pub used : GainsByPlace old.effects f (any_uses old.effects (points_in old) ds) old.used new.used
  pub calls : AreCallsAdded old.functions f ds old.calls.items new.calls.items

-- where function f calls one, the call is added, and nothing else has changed
pub record IsCalled (f : ℕ) (g : Option ℕ) (old new : Own) : Type 0 where
  pub on : IsOnWalk old new
  pub modified_is : new.modified ≡ old.modified
  pub used_is : new.used ≡ old.used
  pub kept : (r : Rule) → Contains old.calls.items r → Contains new.calls.items r
  pub added : (h : ℕ) → g ≡ Some h → h < old.functions → Contains new.calls.items (call_rule f h)
  pub from : (r : Rule) → Contains new.calls.items r → Contains old.calls.items r ⊎ ((h : ℕ) × (g ≡ Some h) × (h < old.functions) × (call_rule f h ≡ r))

-- ---- the first functions of a program

-- the rule of a call of the program, in one of its first n functions
pub record IsCallBelow (p : Program) (n : ℕ) (r : Rule) : Type 0 where
  pub caller : ℕ
  pub caller_in : caller < n
  pub call : IsCallIn (length p.functions) caller (doings_of p caller) r

-- what each of the first n functions of a program does itself, where locations point so
pub record IsOwn (p : Program) (t : PointsTo) (n : ℕ) (w : Own) : Type 0 where
  pub rows : HasOwnRows w
  pub program_is : w.effects ≡ p
  pub points_is : w.points.now ≡ t
  pub modified_are : (f k : ℕ) (o : TypedLocation) → f < n → slice_get (locations p) k ≡ Some o → has (the_set w.modified f) k ≡ any_defines p (points_of p t) f (doings_of p f) o.location
  pub used_are : (f k : ℕ) (o : TypedLocation) → f < n → slice_get (locations p) k ≡ Some o → has (the_set w.used f) k ≡ any_uses p (points_of p t) (doings_of p f) o.location
  pub modified_below : (f k : ℕ) → Holds w.modified f k → f < n
  pub used_below : (f k : ℕ) → Holds w.used f k → f < n
  pub calls_are : (r : Rule) → Contains w.calls.items r ↔ IsCallBelow p n r

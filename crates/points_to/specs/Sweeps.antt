-- What uses of pointings make of the rows that say to what locations may point.
use Rattle.std.specs.Prelude.{◌≡◌, ◌≢◌, ◌⊎◌, ◌&&◌, ◌||◌, ℕ, Bool, true, List, [], ◌∷◌, ◌++◌, length, Option, Some, None, Contains}
use Rattle.bit_rows.specs.Sets.{has, union}
use Rattle.bit_rows.specs.Tables.{the_set, with_set, Holds, IsSized, IsGrown}
use Rattle.c_tree.specs.declared.expr.Expr.{Expr}
use Rattle.c_tree.specs.declared.program.Init.{Init}
use Rattle.c_tree.specs.declared.program.Init.TheVariants as init
use Rattle.c_tree.specs.declared.program.Program.{Program}
use Rattle.dep_model.specs.declared.location.Location.{Location}
use Rattle.dep_model.specs.declared.location.Root.{Root}
use Rattle.dep_model.specs.declared.points_to.PointsTo.{PointsTo}
use Rattle.dep_model.specs.Denoted.{Places, TargetsOf, is_location, expr_points}
use Rattle.dep_model.specs.Doings.{Doing}
use Rattle.dep_model.specs.LocationLists.{location_list, AreListedOnce}
use Rattle.dep_model.specs.LocationRows.{points_of, HasPointsRows}
use Rattle.dep_model.specs.Locations.{locations}
use Rattle.dep_model.specs.MayPoint.{Pointing, pointing, doing_pointings, IsPointing}
use Rattle.effect_rows.specs.Gains.{row_of}
use Rattle.points_laws.specs.Relations.{IsDerived, HasPairs}
use Rattle.points_to.specs.declared.agenda.Agenda.{Agenda}
use Rattle.points_to.specs.declared.solver.Solver.{Solver}
use Rattle.points_to.specs.Agendas.{IsAgenda, is_settled}

-- where locations may point, as far as rounds have come, and which statements have to be used again
pub record Standing : Type 0 where
  pub points : PointsTo
  pub agenda : Agenda

abbrev pub standing : Solver → Standing
standing w = record { points = w.points; agenda = w.agenda }

-- the rows and the list are those of the program
pub record IsReady (w : Solver) : Type 0 where
  pub once : AreListedOnce w.effects
  pub program_is : w.program.now ≡ w.effects
  pub list_is : w.list.now ≡ location_list w.effects
  pub points_are : HasPointsRows w.effects w.points
  pub sides_are : IsSized 3 (length (locations w.effects)) w.sides
  pub agenda_is : IsAgenda (length (locations w.effects)) w.agenda

-- a statement that is settled was so before, and no row that it has read has changed
pub record IsTold (old : Standing) (new : Solver) : Type 0 where
  pub readers_stay : new.agenda.readers ≡ old.agenda.readers
  pub told : (k : ℕ) → is_settled new.agenda k ≡ true
      → (is_settled old.agenda k ≡ true) × ((j : ℕ) → Holds old.agenda.readers j k → the_set new.points.rows j ≡ the_set old.points.rows j)

-- a whole object
abbrev pub at_root : Root → Location
at_root r = record { root = r; path = [] }

-- the right side is the row of some locations, and the left side is what it was
pub record IsFilled (from : Places) (old new : Solver) : Type 0 where
  pub ready : IsReady new
  pub program_stays : new.effects ≡ old.effects
  pub rows_stay : new.points ≡ old.points
  pub agenda_stays : new.agenda ≡ old.agenda
  pub left_stays : the_set new.sides 0 ≡ the_set old.sides 0
  pub right : the_set new.sides 1 ≡ row_of old.effects from

-- the row at a place has gained what is on the right, and no other row has changed
pub record IsGrownAt (place : ℕ) (old new : Solver) (changed : Bool) : Type 0 where
  pub ready : IsReady new
  pub sides_stay : new.sides ≡ old.sides
  pub program_stays : new.effects ≡ old.effects
  pub rows : new.points.rows ≡ with_set old.points.rows place (union (the_set old.points.rows place) (the_set old.sides 1))
  pub grown : IsGrown old.points.rows new.points.rows changed
  pub told : IsTold (standing old) new

-- the row at a place has gained what is on the right, where it is on the left, and no other row has changed
pub record IsJoinedAt (place : ℕ) (old new : Solver) (changed : Bool) : Type 0 where
  pub ready : IsReady new
  pub sides_stay : new.sides ≡ old.sides
  pub program_stays : new.effects ≡ old.effects
  pub grown : IsGrown old.points.rows new.points.rows changed
  pub told : IsTold (standing old) new
  pub here : (k : ℕ) → has (the_set new.points.rows place) k ≡ (has (the_set old.points.rows place) k || (has (the_set old.sides 0) place && has (the_set old.sides 1) k))
  pub others : (j : ℕ) → j ≢ place → the_set new.points.rows j ≡ the_set old.points.rows j

-- the row of each location on the left has gained those on the right, and no other row has changed
pub record IsJoined (old new : Solver) (changed : Bool) : Type 0 where
  pub ready : IsReady new
  pub sides_stay : new.sides ≡ old.sides
  pub program_stays : new.effects ≡ old.effects
  pub grown : IsGrown old.points.rows new.points.rows changed
  pub told : IsTold (standing old) new
  pub gained : (j k : ℕ) → has (the_set new.points.rows j) k ≡ (has (the_set old.points.rows j) k || (has (the_set old.sides 0) j && has (the_set old.sides 1) k))

-- the rows have gained what a pointing of program p gives of its locations
pub record IsUsed (p : Program) (a : Pointing) (old : Standing) (new : Solver) (changed : Bool) : Type 0 where
  pub ready : IsReady new
  pub program_stays : new.effects ≡ p
  pub grown : IsGrown old.points.rows new.points.rows changed
  pub told : IsTold old new
  pub from_old : (l m : Location) → points_of p new.points l m ≡ true → (points_of p old.points l m ≡ true) ⊎ ((a.into l ≡ true) × (a.from m ≡ true))
  pub gained : HasPairs (is_location p) (points_of p new.points) a

-- each of some pointings, which depend on where locations may point, has been used. Where all of them are of program p, derived pairs
-- stay so; and what they gave at first is held
pub record IsSwept (p : Program) (give : TargetsOf → List Pointing) (old : Standing) (new : Solver) (changed : Bool) : Type 0 where
  pub ready : IsReady new
  pub program_stays : new.effects ≡ p
  pub grown : IsGrown old.points.rows new.points.rows changed
  pub told : IsTold old new
  pub sound : ((points : TargetsOf) (a : Pointing) → Contains (give points) a → IsPointing p points a) → IsDerived p (points_of p old.points) → IsDerived p (points_of p new.points)
  pub gained : (a : Pointing) → Contains (give (points_of p old.points)) a → HasPairs (is_location p) (points_of p new.points) a

-- ---- what is used

-- each of some values is stored in the same locations
abbrev pub stored : Program → Places → List Expr → TargetsOf → List Pointing
stored p into [] points = []
stored p into (e ∷ es) points = pointing into (expr_points p points e) ∷ stored p into es points

-- what an object begins with is stored there
abbrev pub init_given : Program → Places → Init → TargetsOf → List Pointing
init_given p into init.None points = []
init_given p into (init.One e) points = pointing into (expr_points p points e) ∷ []
init_given p into (init.Items es) points = stored p into es points

-- what a return gives is stored there
abbrev pub returned_given : Program → Places → Option Expr → TargetsOf → List Pointing
returned_given p into None points = []
returned_given p into (Some e) points = pointing into (expr_points p points e) ∷ []

-- the pointings of statements of a function
abbrev pub given_by : Program → ℕ → List Doing → TargetsOf → List Pointing
given_by p f [] points = []
given_by p f (d ∷ ds) points = doing_pointings p points f d ++ given_by p f ds points

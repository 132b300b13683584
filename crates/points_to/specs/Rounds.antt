-- What uses of a list of statements make of the rows, where a statement that is settled isn't used.
use Rattle.std.specs.Prelude.{◌≡◌, ℕ, ◌<◌, ◌≤◌, Bool, true, false, List, Option, Some, None, Contains, slice_get}
use Rattle.bit_rows.specs.Tables.{Table, Holds, IsGrown}
use Rattle.c_tree.specs.declared.program.Program.{Program}
use Rattle.c_tree.specs.declared.statement.Statement.{Statement}
use Rattle.dep_model.specs.declared.points_to.PointsTo.{PointsTo}
use Rattle.dep_model.specs.Denoted.{Places, TargetsOf, no_places, either_of, is_location}
use Rattle.dep_model.specs.Doings.{Doing, Does, Calls}
use Rattle.dep_model.specs.DoingEffects.{result_of}
use Rattle.dep_model.specs.LocationRows.{points_of}
use Rattle.dep_model.specs.Locations.{same_location}
use Rattle.dep_model.specs.MayPoint.{Pointing, IsPointing}
use Rattle.effect_rows.specs.Own.{own_doing, own_uses}
use Rattle.mod_ref.specs.Own.{own_doings}
use Rattle.points_laws.specs.Relations.{IsDerived, HasPairs}
use Rattle.points_to.specs.declared.moves.Move.{Move}
use Rattle.points_to.specs.declared.solver.Solver.{Solver}
use Rattle.points_to.specs.Agendas.{is_settled}
use Rattle.points_to.specs.Sweeps.{IsReady, given_by}

-- the function that is called
abbrev pub called_of : Option Doing → Option ℕ
called_of None = None
called_of (Some (Does i a)) = None
called_of (Some (Calls i to g args)) = Some g

abbrev pub own_called : Statement → Option ℕ
own_called s = called_of (own_doing s)

-- what it returns
abbrev pub returned_by : Option ℕ → Places
returned_by None = no_places
returned_by (Some g) = same_location (result_of g)

abbrev pub source_of : Option Doing → Places
source_of o = returned_by (called_of o)

abbrev pub own_source : Statement → Places
own_source s = source_of (own_doing s)

-- what is read for the pointings of a statement: what it may use, and of a call what the function returns
abbrev pub own_pointing_reads : Program → TargetsOf → Statement → Places
own_pointing_reads p points s = either_of (own_uses p points s) (own_source s)

-- the pointings of a statement
abbrev pub gives : Program → Move → TargetsOf → List Pointing
gives p m = given_by p m.function (own_doings m.statement.now)

-- whatever else rows say: where they say no more of the locations whose rows statement k has read, all that its pointings give by them is
-- held
abbrev pub IsHeld : Program → (TargetsOf → List Pointing) → Table → ℕ → PointsTo → Type 0
IsHeld p give readers k t =
    (u : PointsTo) → ((j i : ℕ) → Holds readers j k → Holds u.rows j i → Holds t.rows j i)
    → (a : Pointing) → Contains (give (points_of p u)) a → HasPairs (is_location p) (points_of p t) a

-- what settled statements give is held, also where other rows grow
abbrev pub AreHeld : Program → List Move → Solver → Type 0
AreHeld p moves w = (k : ℕ) (m : Move) → slice_get moves k ≡ Some m → is_settled w.agenda k ≡ true → IsHeld p (gives p m) w.agenda.readers k w.points

-- the pointings of the statements are the program's
abbrev pub AreOfProgram : Program → List Move → Type 0
AreOfProgram p moves = (k : ℕ) (m : Move) → slice_get moves k ≡ Some m → (points : TargetsOf) (a : Pointing) → Contains (gives p m points) a → IsPointing p points a

-- the statements from one place of a list to another have been used, but for settled ones. Derived pairs stay so; where nothing has changed,
-- what each of them gives is held
pub record IsRound (p : Program) (moves : List Move) (from to : ℕ) (old new : Solver) (changed : Bool) : Type 0 where
  pub ready : IsReady new
  pub program_stays : new.effects ≡ p
  pub statements_stay : new.agenda.readers.bits ≡ old.agenda.readers.bits
  pub grown : IsGrown old.points.rows new.points.rows changed
  pub sound : AreOfProgram p moves → IsDerived p (points_of p old.points) → IsDerived p (points_of p new.points)
  pub held : AreHeld p moves old → AreHeld p moves new
  pub closed : AreHeld p moves old → changed ≡ false → (k : ℕ) (m : Move) → from ≤ k → k < to → slice_get moves k ≡ Some m
      → (a : Pointing) → Contains (gives p m (points_of p new.points)) a → HasPairs (is_location p) (points_of p new.points) a

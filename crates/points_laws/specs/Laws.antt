-- What may point is the least relation that the pointings of a program leave as it is, and what its pairs are of.
use Rattle.std.specs.Prelude.{◌≡◌, Bool, true, false}
use Rattle.c_tree.specs.declared.expr.Expr.{Expr}
use Rattle.c_tree.specs.declared.program.Program.{Program}
use Rattle.c_language.specs.Programs.{IsWellFormed}
use Rattle.dep_model.specs.declared.location.Location.{Location}
use Rattle.dep_model.specs.declared.location.Root.{Root}
use Rattle.dep_model.specs.declared.location.Root.TheVariants.{Input, Variable, Site, Result}
use Rattle.dep_model.specs.Denoted.{Places, TargetsOf, expr_places, expr_points, expr_reads, left_reads}
use Rattle.dep_model.specs.DoingEffects.{is_taken}
use Rattle.dep_model.specs.ListedLocations.{IsListed}
use Rattle.dep_model.specs.MayPoint.{Pointing, IsPointing, MayPoint}
use Rattle.points_laws.specs.Known.{AreGlobalsNowhere, HasKnownSides}
use Rattle.points_laws.specs.Relations.{AreAmong, LiesIn, LiesInAt, IsDerived, IsClosedOn}

-- by the first relation an expression has no other places, and points nowhere else, than by the second
pub record IsMonotone (p : Program) (first second : TargetsOf) (e : Expr) : Type 0 where
  pub places : AreAmong (expr_places p first e) (expr_places p second e)
  pub points : AreAmong (expr_points p first e) (expr_points p second e)

-- where one relation lies in another, each expression denotes no more by it
abbrev pub ExpressionsAreMonotone : Type 0
ExpressionsAreMonotone = (p : Program) (first second : TargetsOf) → LiesIn first second → (e : Expr) → IsMonotone p first second e

-- an expression denotes no more by one relation than by another, where the first lies in the second as far as pairs begin at what is
-- read by the second: for its object at what is read to find that, for its value at what is read for that
abbrev pub ReadsDecide : Type 0
ReadsDecide =
    (p : Program) (first second : TargetsOf) (e : Expr)
    → (LiesInAt (left_reads p second e) first second → AreAmong (expr_places p first e) (expr_places p second e))
    × (LiesInAt (expr_reads p second e) first second → AreAmong (expr_points p first e) (expr_points p second e))

-- one use of a pointing at derived pairs gives derived pairs
abbrev pub UsesAreDerived : Type 0
UsesAreDerived =
    (p : Program) (points : TargetsOf) (a : Pointing) (l m : Location) → IsDerived p points → IsPointing p points a → a.into l ≡ true → a.from m ≡ true → MayPoint p l m

-- where all derived pairs are of known locations, pairs that every pointing leaves as they are, as far as locations are known, hold
-- all derived ones
abbrev pub ClosedHoldDerived : Type 0
ClosedHoldDerived =
    (p : Program) (known : Places) (points : TargetsOf) → ((l m : Location) → MayPoint p l m → (known l ≡ true) × (known m ≡ true))
    → IsClosedOn p known points → (l m : Location) → MayPoint p l m → points l m ≡ true

-- both sides of each pointing of a well-formed program are known
abbrev pub SidesAreKnown : Type 0
SidesAreKnown = (p : Program) → IsWellFormed p → HasKnownSides p

-- each derived pair of a program whose pointings have known sides is of two of its locations
abbrev pub PairsAreListed : Type 0
PairsAreListed = (p : Program) (l m : Location) → HasKnownSides p → MayPoint p l m → IsListed p l × IsListed p m

-- a site, or a variable whose address is taken
abbrev pub is_pointed_root : Program → Root → Bool
is_pointed_root p Input = false
is_pointed_root p (Variable x) = is_taken p x
is_pointed_root p (Site i) = true
is_pointed_root p (Result f) = false

-- what a location may point to lies in a site or in a variable whose address is taken
abbrev pub TargetsAreTaken : Type 0
TargetsAreTaken = (p : Program) (l m : Location) → AreGlobalsNowhere p → MayPoint p l m → is_pointed_root p m.root ≡ true

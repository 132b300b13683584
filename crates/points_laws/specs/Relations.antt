-- Relations of pairs of locations: what they hold, and what pointings ask of them.
use Rattle.std.specs.Prelude.{◌≡◌, ◌||◌, true}
use Rattle.c_tree.specs.declared.program.Program.{Program}
use Rattle.dep_model.specs.declared.location.Location.{Location}
use Rattle.dep_model.specs.Denoted.{Places, TargetsOf}
use Rattle.dep_model.specs.Doings.{Doing, Does, Calls}
use Rattle.dep_model.specs.DoingEffects.{doing_uses, result_of}
use Rattle.dep_model.specs.Locations.{same_location}
use Rattle.dep_model.specs.MayPoint.{Pointing, IsPointing, MayPoint}

-- each of the first locations is one of the second
abbrev pub AreAmong : Places → Places → Type 0
AreAmong a b = (l : Location) → a l ≡ true → b l ≡ true

-- each pair of the first relation is one of the second
abbrev pub LiesIn : TargetsOf → TargetsOf → Type 0
LiesIn first second = (k n : Location) → first k n ≡ true → second k n ≡ true

-- the first relation lies in the second as far as pairs begin at these locations
abbrev pub LiesInAt : Places → TargetsOf → TargetsOf → Type 0
LiesInAt places first second = (k n : Location) → places k ≡ true → first k n ≡ true → second k n ≡ true

-- what is read for the pointings of a statement: what it may use, and of a call what the function returns
abbrev pub pointing_reads : Program → TargetsOf → Doing → Places
pointing_reads p points (Does i a) l = doing_uses p points (Does i a) l
pointing_reads p points (Calls i to g args) l = doing_uses p points (Calls i to g args) l || same_location (result_of g) l

-- the relation has derived pairs alone
abbrev pub IsDerived : Program → TargetsOf → Type 0
IsDerived p points = (k n : Location) → points k n ≡ true → MayPoint p k n

-- the relation has each pair of known locations that a pointing gives
abbrev pub HasPairs : Places → TargetsOf → Pointing → Type 0
HasPairs known points a = (l m : Location) → known l ≡ true → known m ≡ true → a.into l ≡ true → a.from m ≡ true → points l m ≡ true

-- each pointing of the program, evaluated at the relation, leaves it as it is, as far as locations are known
abbrev pub IsClosedOn : Program → Places → TargetsOf → Type 0
IsClosedOn p known points = (a : Pointing) → IsPointing p points a → HasPairs known points a

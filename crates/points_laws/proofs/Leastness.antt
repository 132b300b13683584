-- What may point is derived by each use of a pointing, and lies in each relation that all pointings leave as it is.
use Rattle.std.proofs.Common.{◌≡◌, true}
use Rattle.c_tree.specs.declared.program.Program.{Program}
use Rattle.dep_model.specs.declared.location.Location.{Location}
use Rattle.dep_model.specs.Denoted.{Places, TargetsOf}
use Rattle.dep_model.specs.MayPoint.{MayPoint, by, IsPointsTo}
use Rattle.points_laws.specs.Relations.{IsDerived, IsClosedOn}
use Rattle.points_laws.specs.Laws.{UsesAreDerived, ClosedHoldDerived}
use Rattle.points_laws.proofs.Wider.{pointing_wider}

pub uses_derived : UsesAreDerived
uses_derived p points a l m derived is into from = by points a derived is into from

pub closed_hold : ClosedHoldDerived
closed_hold p known points are closed l m (by small a derived is into from) =
    let w = pointing_wider p small points (λ k n t. closed_hold p known points are closed k n (derived k n t)) a is in
    let both = are l m (by small a derived is into from) in
    closed w.wider w.is l m both.0 both.1 (w.into l into) (w.from m from)

-- derived pairs that every pointing leaves as they are are all of them
pub all_derived : (p : Program) (known : Places) (points : TargetsOf) → ((l m : Location) → MayPoint p l m → (known l ≡ true) × (known m ≡ true)) → IsDerived p points → IsClosedOn p known points → IsPointsTo p points
all_derived p known points are derived closed l m = (derived l m, closed_hold p known points are closed l m)

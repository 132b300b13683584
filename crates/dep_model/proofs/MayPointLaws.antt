-- May-point has what each pointing of the program gives, and is one relation.
use Rattle.std.proofs.Common.{◌≡◌, true}
use Rattle.c_tree.specs.declared.program.Program.{Program}
use Rattle.dep_model.specs.declared.location.Location.{Location}
use Rattle.dep_model.specs.Denoted.{TargetsOf}
use Rattle.dep_model.specs.MayPoint.{Pointing, IsPointing, by, IsPointsTo}

pub points_closed : (p : Program) (points : TargetsOf) → IsPointsTo p points → (a : Pointing) (l m : Location) → IsPointing p points a → a.into l ≡ true → a.from m ≡ true → points l m ≡ true
points_closed p points is a l m pointing into from = (is l m).1 (by points a (λ k n t. (is k n).0 t) pointing into from)

pub points_one : (p : Program) (first second : TargetsOf) → IsPointsTo p first → IsPointsTo p second → (l m : Location) → first l m ≡ true → second l m ≡ true
points_one p first second is also l m t = (also l m).1 ((is l m).0 t)

-- What rows that say by place what functions modify and use are of a program.
use Rattle.std.specs.Prelude.{ℕ, ◌⊎◌}
use Rattle.c_tree.specs.declared.program.Program.{Program}
use Rattle.dep_model.specs.declared.location.Location.{Location}
use Rattle.dep_model.specs.declared.points_to.Effects.{Effects}
use Rattle.dep_model.specs.Denoted.{TargetsOf}
use Rattle.dep_model.specs.ListedLocations.{IsListed}
use Rattle.dep_model.specs.LocationRows.{AreEffectRows}
use Rattle.dep_model.specs.ModRef.{Modifies, MayUse}
use Rattle.mod_ref.specs.Effects.{AreEffectsByPlace}

-- where all that functions modify and use is listed, they are its rows, which say so of every location
abbrev pub EffectsByPlaceAreRows : Type 0
EffectsByPlaceAreRows =
    (p : Program) (points : TargetsOf) (e : Effects) → ((f : ℕ) (l : Location) → Modifies p points f l ⊎ MayUse p points f l → IsListed p l)
    → AreEffectsByPlace p points e → AreEffectRows p points e

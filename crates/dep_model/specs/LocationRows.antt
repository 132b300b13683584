-- Rows of locations, by the places of these in the list of a program's locations, and what such rows say.
use Rattle.std.specs.Prelude.{◌≡◌, ℕ, List, length, Bool, false, Option, Some, slice_get}
use Rattle.std.specs.List.{position}
use Rattle.std.specs.Option.{option_map_or}
use Rattle.bit_rows.specs.Sets.{has}
use Rattle.bit_rows.specs.Tables.{Table, the_set, IsSized}
use Rattle.c_tree.specs.declared.program.Program.{Program}
use Rattle.dep_model.specs.declared.location.Location.{Location}
use Rattle.dep_model.specs.declared.points_to.Effects.{Effects}
use Rattle.dep_model.specs.declared.points_to.PointsTo.{PointsTo}
use Rattle.dep_model.specs.Denoted.{Places, TargetsOf, no_places}
use Rattle.dep_model.specs.Locations.{TypedLocation, locations, same_location}
use Rattle.dep_model.specs.MayPoint.{IsPointsTo}
use Rattle.dep_model.specs.ModRef.{FunctionEffects, AreFunctionEffects}
use Rattle.dep_model.specs.SystemGraph.{Analysis}

-- the row of each of some things has its locations
pub record AreRows (p : Program) {A : Type 0} (xs : List A) (places : A → Places) (t : Table) : Type 0 where
  pub sized : IsSized (length xs) (length (locations p)) t
  pub exact : (v k : ℕ) (x : A) (o : TypedLocation)
      → slice_get xs v ≡ Some x → slice_get (locations p) k ≡ Some o → has (the_set t v) k ≡ places x o.location

-- ---- what rows say

-- the place of a location in the list
abbrev pub place_of : Program → Location → Option ℕ
place_of p l = position (λ (o : TypedLocation). same_location o.location l) (locations p)

-- the locations that a row has
abbrev pub row_places : Program → List Bool → Places
row_places p row l = option_map_or (has row) (place_of p l) false

-- where each location may point, as its row says
abbrev pub points_of : Program → PointsTo → TargetsOf
points_of p t l = option_map_or (λ k. row_places p (the_set t.rows k)) (place_of p l) no_places

-- what each function modifies and uses, as its rows say
abbrev pub effects_of : Program → Effects → FunctionEffects
effects_of p e = record {
  modified = λ f. row_places p (the_set e.modified f);
  used = λ f. row_places p (the_set e.used f);
}

abbrev pub analysis_of : Program → PointsTo → Effects → Analysis
analysis_of p t e = record { points = points_of p t; effects = effects_of p e }

-- a row of a program's locations for each of them
pub record HasPointsRows (p : Program) (t : PointsTo) : Type 0 where
  pub sized : IsSized (length (locations p)) (length (locations p)) t.rows

-- two rows of a program's locations for each of its functions
pub record HasEffectRows (p : Program) (e : Effects) : Type 0 where
  pub modified_sized : IsSized (length p.functions) (length (locations p)) e.modified
  pub used_sized : IsSized (length p.functions) (length (locations p)) e.used

-- the rows of a program: where each location may point
pub record ArePointsRows (p : Program) (t : PointsTo) : Type 0 where
  pub sized : HasPointsRows p t
  pub exact : IsPointsTo p (points_of p t)

-- the rows of a program, where locations may point so: what each function modifies and uses
pub record AreEffectRows (p : Program) (points : TargetsOf) (e : Effects) : Type 0 where
  pub sized : HasEffectRows p e
  pub exact : AreFunctionEffects p points (effects_of p e)

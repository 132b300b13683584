-- The row of a location that points somewhere, and of one that isn't listed.
use Rattle.std.proofs.Common.{◌≡◌, ℕ, zero, suc, List, [], ◌∷◌, length, map, replicate, slice_get, false, Option, Some, refl, ap, ◌∙◌, subst}
use Rattle.std.specs.Prelude.{Contains}
use Rattle.std.specs.Option.{option_map_or}
use Rattle.std.proofs.lemmas.Option.{same_Some}
use Rattle.bit_rows.specs.Tables.{the_set}
use Rattle.c_tree.specs.declared.program.Program.{Program}
use Rattle.dep_model.specs.declared.location.Location.{Location}
use Rattle.dep_model.specs.declared.points_to.PointsTo.{PointsTo}
use Rattle.dep_model.specs.Denoted.{no_places}
use Rattle.dep_model.specs.LocationLists.{location_list, AreListedOnce}
use Rattle.dep_model.specs.LocationRows.{place_of, row_places, points_of, HasPointsRows}
use Rattle.dep_model.specs.Locations.{TypedLocation, locations}
use Rattle.effect_rows.specs.Gains.{row_of}
use Rattle.effect_rows.proofs.PlaceRows.{contains_at, place_within}
use Rattle.effect_rows.proofs.StepRows.{alone_at, points_row}
use Rattle.mod_ref.proofs.PlacedEffects.{IsFound, there, nowhere, found}

typed_at : (xs : List TypedLocation) (k : ℕ) (l : Location) → slice_get (map (λ (o : TypedLocation). o.location) xs) k ≡ Some l → (o : TypedLocation) × (slice_get xs k ≡ Some o) × (o.location ≡ l)
typed_at [] k l at = cc
typed_at (x ∷ xs) zero l at = (x, refl, same_Some _ _ at)
typed_at (x ∷ xs) (suc k) l at = typed_at xs k l at

none_at : (xs : List TypedLocation) → map (λ (o : TypedLocation). false) xs ≡ replicate (length xs) false
none_at [] = refl
none_at (x ∷ xs) = ap (λ bs. false ∷ bs) (none_at xs)

module _ (p : Program) (once : AreListedOnce p) (t : PointsTo) (rows : HasPointsRows p t) (l : Location) where
  -- the row at the place of a location is that of those to which it may point
  pub listed_row : (k : ℕ) → slice_get (location_list p) k ≡ Some l → the_set t.rows k ≡ row_of p (points_of p t l)
  listed_row k at =
      let o = typed_at (locations p) k l at in
      points_row p once t rows k o.0 o.1 (place_within p l k at) ∙ ap (λ m. row_of p (points_of p t m)) o.2

  -- one that isn't listed points nowhere
  pub unlisted_row : (Contains (location_list p) l → ⊥) → row_of p (points_of p t l) ≡ replicate (length (locations p)) false
  unlisted_row none = by_place (place_of p l) (found (locations p) l)
    where
      by_place : (place : Option ℕ) → IsFound (locations p) l place → row_of p (option_map_or (λ k. row_places p (the_set t.rows k)) place no_places) ≡ replicate (length (locations p)) false
      by_place _ (there k o at same) = absurd (none (subst (Contains (location_list p)) same (contains_at (location_list p) k o.location (alone_at (locations p) k o at))))
      by_place _ (nowhere away) = none_at (locations p)
